use Rattle.suite_plan.proofs.FirstLemmas.{has_distinct}
use Rattle.suite_plan.proofs.first_ids.FirstIds.into_ids.Goals as goal

pub returns-clause-distinct : goal.returns-clause-distinct
returns-clause-distinct c = λ ids has. has_distinct c.args.self ids has
