use Rattle.std.proofs.Common.{◌∙◌, ap}
use Rattle.std.specs.FinMap as fin
use Rattle.std.proofs.lemmas.Result.{on_ok_weaker}
use Rattle.outcome_fold.proofs.ChangedLemmas.{failing_kept, changed_by_kept}
use Rattle.outcome_fold.proofs.summary.Summary.change_failing.Goals as goal

pub returns : goal.returns
returns c = λ filter_tags rows sums.
    on_ok_weaker c.put_all.result
    (λ new-is. changed_by_kept rows _ _ _ _ _ _ _ _ (ap fin.keys sums.times) sums.untimed (c.in_ok-failing.ensures ∙ failing_kept rows _ (c.deref.ensures.value ∙ sums.failing)) c.in_ok-into_ids.ensures c.remove_from.ensures c.remove_set.ensures new-is)
    c.put_all.ensures
