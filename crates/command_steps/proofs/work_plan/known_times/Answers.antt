use Rattle.std.proofs.Common.{refl}
use Rattle.run_shelf.proofs.Joining.{stays_some}
use Rattle.command_steps.specs.Perhaps.{did}
use Rattle.command_steps.proofs.StepCalls.{asks_none}
use Rattle.command_steps.proofs.SelectLemmas.{perhaps_stops, wanted_is}
use Rattle.command_steps.proofs.work_plan.known_times.Goals as goal

pub returns-in_err-find_times-clause-step : goal.returns-in_err-find_times-clause-step
returns-in_err-find_times-clause-step g c = perhaps_stops tt _ (wanted_is _ c.if-not-wanted.false) c.from_residual.ensures.1 c.in_err-find_times.ensures.step

pub returns-clause-step : goal.returns-clause-step
returns-clause-step g c = did tt _ (wanted_is _ c.if-not-wanted.false) refl c.in_ok-find_times.ensures.step

pub returns-clause-fits : goal.returns-clause-fits
returns-clause-fits g c = stays_some _ _ _ c.requires c.in_ok-find_times.ensures.step.same

pub returns-then-not-wanted-clause-calls : goal.returns-then-not-wanted-clause-calls
returns-then-not-wanted-clause-calls g c = asks_none _ _ _ _
