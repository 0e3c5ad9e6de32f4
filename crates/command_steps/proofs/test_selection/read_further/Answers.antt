use Rattle.command_steps.specs.Steps.{goes_on}
use Rattle.command_steps.proofs.StepLemmas.{stopped, gives}
use Rattle.command_steps.proofs.test_selection.read_further.Goals as goal

pub returns-in_err-including : goal.returns-in_err-including
returns-in_err-including g c = stopped _ c.from_residual.ensures.1 c.in_err-including.ensures

pub returns-in_err-excluding : goal.returns-in_err-excluding
returns-in_err-excluding g c =
    goes_on c.in_ok-including.including _ c.in_ok-including.ensures
    (stopped _ c.from_residual-in_err-excluding.ensures.1 c.in_err-excluding.ensures)

pub returns-in_err-times : goal.returns-in_err-times
returns-in_err-times g c =
    goes_on c.in_ok-including.including _ c.in_ok-including.ensures
    (goes_on c.in_ok-excluding.excluding _ c.in_ok-excluding.ensures
    (stopped _ c.from_residual-in_err-times.ensures.1 c.in_err-times.ensures))

pub returns : goal.returns
returns g c =
    goes_on c.in_ok-including.including _ c.in_ok-including.ensures
    (goes_on c.in_ok-excluding.excluding _ c.in_ok-excluding.ensures
    (goes_on c.in_ok-times.times _ c.in_ok-times.ensures
    gives))
