use Rattle.std.proofs.Common.{◌∙◌}
use Rattle.std.proofs.lemmas.Result.{IfOk-weaker}
use Rattle.outcome_fold.proofs.ChangedLemmas.{failing_kept}
use Rattle.outcome_fold.proofs.summary.Summary.failing_ids.Goals as goal

pub returns : goal.returns
returns c = λ filter_tags rows sums.
    IfOk-weaker c.into_ids.result _ _ (λ ids is. is ∙ c.in_ok-failing_set.ensures ∙ failing_kept rows _ (c.deref.ensures.value ∙ sums.failing)) c.into_ids.ensures
