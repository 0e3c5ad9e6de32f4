use Rattle.std.proofs.Common.{[]}
use Rattle.command_steps.proofs.SpeakLemmas.{lanes_written, lanes_refused}
use Rattle.command_steps.proofs.worker_run.record_workers.Goals as goal

pub returns-in-Ok-clause-aloud : goal.returns-in-Ok-clause-aloud
returns-in-Ok-clause-aloud g c = lanes_written _ _ _ _ _ _ _ _ _ _ c.in-Ok.is c.record_lanes-found.ensures.aloud

pub returns-in-Err-clause-some : goal.returns-in-Err-clause-some
returns-in-Err-clause-some g c = lanes_refused _ c.args.filter_tags [] _ _ _ _ _ _ _ c.in-Err.is c.record_lanes-found.ensures.begun
