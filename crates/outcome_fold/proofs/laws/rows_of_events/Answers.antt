use Rattle.outcome_fold.proofs.LawLemmas.{parts_count, completed_there, open_there, as_many}
use Rattle.outcome_fold.proofs.laws.rows_of_events.Goals as goal

pub returns-clause-parts : goal.returns-clause-parts
returns-clause-parts c = parts_count

pub returns-clause-completed : goal.returns-clause-completed
returns-clause-completed c = completed_there

pub returns-clause-left_open : goal.returns-clause-left_open
returns-clause-left_open c = open_there

pub returns-clause-as_many : goal.returns-clause-as_many
returns-clause-as_many c = as_many
