use Rattle.std.proofs.Common.{◌∙◌, sym}
use Rattle.outcome_fold.proofs.SetLemmas.{order_of_none}
use Rattle.outcome_fold.proofs.AnswerLemmas.{tags_take, tags_skip}
use Rattle.outcome_fold.proofs.rows.tag_set.Goals.{then-is_run+in_ok-insert_all, else-is_run}
use Rattle.outcome_fold.proofs.rows.tag_set.Goals as goal

pub loop-row-init : goal.loop-row-init
loop-row-init c = c.new-tags.ensures ∙ sym order_of_none

pub loop-row-preserved : goal.loop-row-preserved
loop-row-preserved c = elim c.if-is_run.branch [
  | then-is_run+in_ok-insert_all w ↦ w.tags-is ∙ tags_take _ _ c.row-item.result _ _ _ c.loop-row-test.true c.row-item.is (sym c.is_run.ensures ∙ w.if-is_run.true) c.loop-row.invariant w.list.ensures w.in_ok-insert_all.ensures
  | else-is_run w ↦ w.tags-is ∙ c.loop-row.invariant ∙ tags_skip _ _ c.row-item.result c.loop-row-test.true c.row-item.is (sym c.is_run.ensures ∙ w.if-is_run.false)
]
