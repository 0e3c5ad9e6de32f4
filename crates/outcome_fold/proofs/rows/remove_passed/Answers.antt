use Rattle.std.proofs.Common.{◌∙◌, ◌∷◌, [], sym, ap, ◌&&◌, not}
use Rattle.outcome_fold.specs.Order.{among, without}
use Rattle.outcome_fold.specs.Answers.{is_run}
use Rattle.outcome_fold.proofs.SetLemmas.{without_none}
use Rattle.outcome_fold.proofs.AnswerLemmas.{taken_out, left_in}
use Rattle.outcome_fold.proofs.rows.remove_passed.Goals.{then-has_passed, else-has_passed}
use Rattle.outcome_fold.proofs.rows.remove_passed.Goals as goal

pub loop-row-init : goal.loop-row-init
loop-row-init c = without_none _

pub loop-row-preserved : goal.loop-row-preserved
loop-row-preserved c = elim c.if-has_passed.branch [
  | then-has_passed w ↦ w.ids-is ∙ w.remove.ensures ∙ ap (λ ids. without ids (c.row-item.result.id ∷ [])) c.loop-row.invariant
      ∙ taken_out (λ row. is_run row && not (among c.args.failing.now row.id)) c.args.ids.now _ _ c.row-item.result c.loop-row-test.true c.row-item.is (sym c.has_passed.ensures ∙ w.if-has_passed.true)
  | else-has_passed w ↦ w.ids-is ∙ c.loop-row.invariant
      ∙ left_in (λ row. is_run row && not (among c.args.failing.now row.id)) c.args.ids.now _ _ c.row-item.result c.loop-row-test.true c.row-item.is (sym c.has_passed.ensures ∙ w.if-has_passed.false)
]
