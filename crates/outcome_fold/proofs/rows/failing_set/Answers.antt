use Rattle.std.proofs.Common.{◌∙◌, ◌∷◌, sym, ap}
use Rattle.outcome_fold.specs.Order.{in_byte_order}
use Rattle.outcome_fold.specs.Answers.{row_fails}
use Rattle.outcome_fold.proofs.SetLemmas.{order_of_none}
use Rattle.outcome_fold.proofs.AnswerLemmas.{set_takes, set_skips}
use Rattle.outcome_fold.proofs.rows.failing_set.Goals.{then-fails+in_ok-insert, else-fails}
use Rattle.outcome_fold.proofs.rows.failing_set.Goals as goal

pub loop-row-init : goal.loop-row-init
loop-row-init c = c.new-ids.ensures ∙ sym order_of_none

pub loop-row-preserved : goal.loop-row-preserved
loop-row-preserved c = elim c.if-fails.branch [
  | then-fails+in_ok-insert w ↦ w.ids-is ∙ w.in_ok-insert.ensures.ok ∙ ap (λ ids. in_byte_order (c.row-item.result.id ∷ ids)) c.loop-row.invariant
      ∙ set_takes row_fails _ _ c.row-item.result c.loop-row-test.true c.row-item.is (sym c.fails.ensures ∙ w.if-fails.true)
  | else-fails w ↦ w.ids-is ∙ c.loop-row.invariant ∙ set_skips row_fails _ _ c.row-item.result c.loop-row-test.true c.row-item.is (sym c.fails.ensures ∙ w.if-fails.false)
]
