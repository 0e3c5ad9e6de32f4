use Rattle.outcome_fold.proofs.SetLemmas.{order_of_none}
use Rattle.suite_plan.proofs.FirstLemmas.{has_none}
use Rattle.suite_plan.proofs.first_ids.FirstIds.new.Goals as goal

pub returns : goal.returns
returns c = has_none _ c.new.ensures c.new-2.ensures order_of_none
