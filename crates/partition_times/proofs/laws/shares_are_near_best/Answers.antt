use Rattle.partition_times.proofs.BoundLemmas.{within_bound, near_best}
use Rattle.partition_times.proofs.laws.shares_are_near_best.Goals as goal

pub returns-clause-bound : goal.returns-clause-bound
returns-clause-bound c = within_bound

pub returns-clause-best : goal.returns-clause-best
returns-clause-best c = near_best
