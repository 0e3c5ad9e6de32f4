use Rattle.run_shelf.proofs.OldLemmas.{old_still, full_still, run_put, base_put, new_itself, new_then}
use Rattle.run_shelf.proofs.laws.old_folders_stay_old.Goals as goal

pub returns-clause-format : goal.returns-clause-format
returns-clause-format c count files image few same old = old_still count files image few same old

pub returns-clause-runs : goal.returns-clause-runs
returns-clause-runs c count number files image few small same = full_still count number files image few small same

pub returns-clause-run : goal.returns-clause-run
returns-clause-run c count number files bytes less = run_put count number files bytes less

pub returns-clause-base : goal.returns-clause-base
returns-clause-base c count files bytes = base_put count files bytes

pub returns-clause-same : goal.returns-clause-same
returns-clause-same c count files = new_itself count files

pub returns-clause-join : goal.returns-clause-join
returns-clause-join c count files middle image first second = new_then count files middle image first second
