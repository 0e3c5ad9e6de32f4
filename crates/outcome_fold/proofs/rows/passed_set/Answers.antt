use Rattle.std.proofs.Common.{◌∙◌, ◌∷◌, sym, ap, ◌&&◌, not}
use Rattle.outcome_fold.specs.Order.{among, in_byte_order}
use Rattle.outcome_fold.specs.Answers.{is_run}
use Rattle.outcome_fold.proofs.SetLemmas.{order_of_none}
use Rattle.outcome_fold.proofs.AnswerLemmas.{set_takes, set_skips}
use Rattle.outcome_fold.proofs.rows.passed_set.Goals.{then-has_passed+in_ok-insert, else-has_passed}
use Rattle.outcome_fold.proofs.rows.passed_set.Goals as goal

pub loop-row-init : goal.loop-row-init
loop-row-init c = c.new-ids.ensures ∙ sym order_of_none

pub loop-row-preserved : goal.loop-row-preserved
loop-row-preserved c = elim c.if-has_passed.branch [
  | then-has_passed+in_ok-insert w ↦ w.ids-is ∙ w.in_ok-insert.ensures.ok ∙ ap (λ ids. in_byte_order (c.row-item.result.id ∷ ids)) c.loop-row.invariant
      ∙ set_takes (λ row. is_run row && not (among c.args.failing.now row.id)) _ _ c.row-item.result c.loop-row-test.true c.row-item.is (sym c.has_passed.ensures ∙ w.if-has_passed.true)
  | else-has_passed w ↦ w.ids-is ∙ c.loop-row.invariant
      ∙ set_skips (λ row. is_run row && not (among c.args.failing.now row.id)) _ _ c.row-item.result c.loop-row-test.true c.row-item.is (sym c.has_passed.ensures ∙ w.if-has_passed.false)
]
