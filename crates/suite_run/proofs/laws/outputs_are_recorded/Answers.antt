use Rattle.suite_run.proofs.RunLemmas.{run_added, lists_count}
use Rattle.suite_run.proofs.laws.outputs_are_recorded.Goals as goal

pub returns-clause-recorded : goal.returns-clause-recorded
returns-clause-recorded c = run_added

pub returns-clause-lists : goal.returns-clause-lists
returns-clause-lists c = lists_count
