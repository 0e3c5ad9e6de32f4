use Rattle.std.proofs.Common.{◌∙◌, refl, arith}
use Rattle.run_shelf.proofs.LookSteps.{stays_back, stays_then}
use Rattle.old_upgrade.proofs.FailingLemmas.{some_more, some_all}
use Rattle.old_upgrade.proofs.failing_set.hear_pieces.Goals as goal

pub returns-then-count-buf-clause-heard : goal.returns-then-count-buf-clause-heard
returns-then-count-buf-clause-heard g c =
    let before = c.loop-piece.invariant in
    some_all _ _ _ _ _ _ before.heard (stays_back _ _ before.same _ c.in_ok-count.ensures.heard) (omega (arith, c.if-count-buf.true, c.hear_piece.auto.buf))

pub loop-piece-preserved : goal.loop-piece-preserved
loop-piece-preserved g c =
    let before = c.loop-piece.invariant in
    record {
      room = omega (arith, before.room, c.hear_piece.auto.buf);
      heard = some_more _ _ _ _ _ _ before.heard (stays_back _ _ before.same _ c.in_ok-count.ensures.heard) _ (omega (arith, before.room)) (omega (arith, c.if-count-buf.false, c.hear_piece.auto.buf));
      some = c.in_ok-count.ensures.some;
      same = stays_then _ _ _ before.same c.in_ok-count.ensures.same;
      count = c.in_ok-count.ensures.cause.stands refl ∙ before.count;
    }
