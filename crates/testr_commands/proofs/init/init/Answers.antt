use Rattle.command_steps.specs.Steps.{goes_on}
use Rattle.command_steps.proofs.StepLemmas.{stopped, gives}
use Rattle.testr_commands.proofs.init.init.Goals as goal

pub returns-in_err-make_store : goal.returns-in_err-make_store
returns-in_err-make_store g c = stopped _ c.from_residual.ensures.1 c.in_err-make_store.ensures

pub returns : goal.returns
returns g c = goes_on _ _ c.in_ok-make_store.ensures gives
