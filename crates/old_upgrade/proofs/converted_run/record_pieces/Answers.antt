use Rattle.std.proofs.Common.{◌∙◌, refl, arith}
use Rattle.old_upgrade.proofs.FileLemmas.{goes_more, goes_all, file_stays, same_then}
use Rattle.old_upgrade.proofs.converted_run.record_pieces.Goals as goal

pub returns-then-count-buf-clause-recorded : goal.returns-then-count-buf-clause-recorded
returns-then-count-buf-clause-recorded g c =
    let before = c.loop-piece.invariant in
    goes_all _ _ _ _ _ _ _ _ _ before.recorded c.in_ok-count.ensures.recorded (omega (arith, c.if-count-buf.true, c.record_piece.auto.buf))

pub loop-piece-preserved : goal.loop-piece-preserved
loop-piece-preserved g c =
    let before = c.loop-piece.invariant in
    let step = c.in_ok-count.ensures in
    record {
      room = omega (arith, before.room, c.record_piece.auto.buf);
      recorded = goes_more _ _ _ _ _ _ _ _ _ before.recorded step.recorded _ (omega (arith, before.room)) (omega (arith, c.if-count-buf.false, c.record_piece.auto.buf));
      there = file_stays _ _ _ before.there step.rests;
      draft = step.draft;
      empty = step.empty;
      going_on = step.going_on;
      rests = same_then _ _ _ before.rests step.rests;
      count = step.cause.stands refl ∙ before.count;
    }
