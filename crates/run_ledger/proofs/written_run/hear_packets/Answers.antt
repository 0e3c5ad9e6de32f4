use Rattle.std.proofs.Common.{◌<◌, length, sym, subst, rules}
use Rattle.std.proofs.lemmas.List.{take_rest}
use Rattle.packet_codec.specs.Packets.{ArePackets}
use Rattle.run_ledger.proofs.WrittenLemmas.{IsSummedTo, IsToldTo, packet_stands, packets_left, summed_none, summed_more, summed_all, told_none, told_more, told_all}
use Rattle.run_ledger.proofs.written_run.hear_packets.Goals as goal

pub loop-left-init : goal.loop-left-init
loop-left-init g c = record { summed = summed_none _ _; told = told_none g.L.RowListener.heard _ _ _; packets = c.requires.packets }

pub hear_packet-requires : goal.hear_packet-requires
hear_packet-requires g c =
    let some : 0 < length c.loop-left.left.now = search rules in
    record { packet = packet_stands _ some c.loop-left.invariant.packets }

pub loop-left-preserved : goal.loop-left-preserved
loop-left-preserved g c =
    let some : 0 < length c.loop-left.left.now = search rules in
    let left = sym (take_rest c.loop-left.left.now c.in_ok-size.size) in
    record {
      summed = subst (λ l. IsSummedTo c.args.bytes.now l c.args.summing.now c.hear_packet.new.summing) left (summed_more c.args.bytes.now c.loop-left.left.now _ _ _ c.in_ok-size.size some c.in_ok-size.ensures.size c.in_ok-size.ensures.summed c.loop-left.invariant.summed);
      told = subst (λ l. IsToldTo g.L.RowListener.heard c.args.bytes.now l c.args.summing.now c.hear_packet.new.summing c.args.listener.now c.hear_packet.new.listener) left (told_more g.L.RowListener.heard c.args.bytes.now c.loop-left.left.now _ _ _ _ _ _ c.in_ok-size.size some c.in_ok-size.ensures.size c.in_ok-size.ensures.summed c.in_ok-size.ensures.heard c.loop-left.invariant.told);
      packets = subst ArePackets left (packets_left c.loop-left.left.now c.in_ok-size.size some c.in_ok-size.ensures.size c.loop-left.invariant.packets);
    }

pub returns-clause-summed : goal.returns-clause-summed
returns-clause-summed g c =
    summed_all c.args.bytes.now c.loop-left.left.now _ _ (search rules) c.loop-left.invariant.summed

pub returns-clause-heard : goal.returns-clause-heard
returns-clause-heard g c =
    told_all g.L.RowListener.heard c.args.bytes.now c.loop-left.left.now _ _ _ _ (search rules) c.loop-left.invariant.told
