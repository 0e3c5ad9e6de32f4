use Rattle.old_runs.proofs.FileLemmas.{some_events, one_events}
use Rattle.old_runs.proofs.laws.old_files.Goals as goal

pub returns-clause-some : goal.returns-clause-some
returns-clause-some c = some_events

pub returns-clause-one : goal.returns-clause-one
returns-clause-one c = one_events
