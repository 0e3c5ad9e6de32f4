use Rattle.std.proofs.Common.{◌<◌, length, sym, subst, rules}
use Rattle.std.proofs.lemmas.List.{take_rest}
use Rattle.packet_codec.specs.Packets.{ArePackets}
use Rattle.old_runs.proofs.PacketLemmas.{IsFoldedTo, packet_stands, packets_left, folded_none, folded_more, folded_all}
use Rattle.old_runs.proofs.failing_tests.hear_packets.Goals as goal

pub loop-left-init : goal.loop-left-init
loop-left-init c = record { folded = folded_none _ _; packets = c.requires.packets }

pub hear_packet-requires : goal.hear_packet-requires
hear_packet-requires c =
    let some : 0 < length c.loop-left.left.now = search rules in
    record { packet = packet_stands _ some c.loop-left.invariant.packets }

pub loop-left-preserved : goal.loop-left-preserved
loop-left-preserved c =
    let some : 0 < length c.loop-left.left.now = search rules in
    let left = sym (take_rest c.loop-left.left.now c.in_ok-size.size) in
    record {
      folded = subst (λ l. IsFoldedTo c.args.bytes.now l c.args.outcomes.now c.hear_packet.new.outcomes) left (folded_more c.args.bytes.now c.loop-left.left.now _ _ _ c.in_ok-size.size some c.in_ok-size.ensures.size c.in_ok-size.ensures.heard c.loop-left.invariant.folded);
      packets = subst ArePackets left (packets_left c.loop-left.left.now c.in_ok-size.size some c.in_ok-size.ensures.size c.loop-left.invariant.packets);
    }

pub returns : goal.returns
returns c =
    folded_all c.args.bytes.now c.loop-left.left.now _ _ (search rules) c.loop-left.invariant.folded
