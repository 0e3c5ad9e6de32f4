use Rattle.suite_run.proofs.StartLemmas.{failed_first, without_lane}
use Rattle.suite_run.proofs.lane_starter.start_next.Goals as goal

pub returns-in_default-clause-refused : goal.returns-in_default-clause-refused
returns-in_default-clause-refused g c = failed_first c.args.job.now _ _ c.in_default.ensures.started

pub returns-in-Err-clause-refused : goal.returns-in-Err-clause-refused
returns-in-Err-clause-refused g c = without_lane c.args.job.now _ _ _ c.in-Ok.ensures.started

pub returns-in-Err-push-clause-refused : goal.returns-in-Err-push-clause-refused
returns-in-Err-push-clause-refused g c = without_lane c.args.job.now _ _ _ c.in-Ok.ensures.started
