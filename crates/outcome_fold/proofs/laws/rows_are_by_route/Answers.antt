use Rattle.outcome_fold.proofs.RouteLemmas.{say_same}
use Rattle.outcome_fold.proofs.MergedLemmas.{merges_agree, merge_says_same}
use Rattle.outcome_fold.proofs.laws.rows_are_by_route.Goals as goal

pub returns-clause-by_route : goal.returns-clause-by_route
returns-clause-by_route c = say_same

pub returns-clause-agree : goal.returns-clause-agree
returns-clause-agree c = merges_agree

pub returns-clause-merged : goal.returns-clause-merged
returns-clause-merged c = merge_says_same
