use Rattle.std.proofs.Common.{◌≡◌, ◌+◌, ◌∙◌, length, min, drop, refl, arith, rules}
use Rattle.packet_codec.specs.Grammar.{AreBytes}
use Rattle.stream_reader.specs.Run.{IsForeign}
use Rattle.stream_reader.proofs.RunLemmas.{foreign_from, one_foreign_more, run_is_open}
use Rattle.stream_reader.proofs.foreign_bytes.foreign_run.Goals as goal

pub loop-count-init : goal.loop-count-init
loop-count-init c =
    let are : AreBytes c.args.buffer.now = rw (c.held.ensures) at c.are_bytes.ensures in
    let room : c.min-room.result ≡ min (length c.args.buffer.now) 65536 = search rules in
    let signature = c.next_signature-count.ensures in
    record {
      same = refl;
      low = signature.low;
      high = signature.high;
      are_foreign = foreign_from _ _ c.args.known _ are (omega (arith, room, signature.high)) (rw (c.held-2.ensures) at signature.passed) c.requires.are_foreign;
    }

pub loop-count-preserved : goal.loop-count-preserved
loop-count-preserved c =
    let are : AreBytes c.args.buffer.now = rw (c.held.ensures) at c.are_bytes.ensures in
    let room : c.min-room.result ≡ min (length c.args.buffer.now) 65536 = search rules in
    let signature = c.next_signature-count-in-No.ensures in
    let same : c.front_at.new.buffer ≡ c.args.buffer.now = c.front_at.ensures.same ∙ c.loop-count.invariant.same in
    let here : IsForeign c.args.ended (drop c.loop-count.count c.args.buffer.now) = rw (c.loop-count.invariant.same) at c.in-No.ensures.front in
    record {
      same = same;
      low = omega (arith, signature.low, c.loop-count.invariant.low);
      high = signature.high;
      are_foreign = foreign_from _ _ (c.loop-count.count + 1) _ are (omega (arith, room, signature.high)) (rw (c.held-in-No.ensures, same) at signature.passed) (one_foreign_more _ _ _ c.loop-count.invariant.are_foreign here);
    }

pub returns-else-count-eq-LONGEST_FOREIGN-clause-run : goal.returns-else-count-eq-LONGEST_FOREIGN-clause-run
returns-else-count-eq-LONGEST_FOREIGN-clause-run c =
    let room : c.min-room.result ≡ min (length c.args.buffer.now) 65536 = search rules in
    let neither = c.if-count-eq-LONGEST_FOREIGN.false in
    run_is_open _ _ _ c.min-room.result neither.0 room c.loop-count.invariant.high c.loop-count-test.false neither.1 c.loop-count.invariant.are_foreign
