use Rattle.std.proofs.Common.{refl}
use Rattle.command_steps.specs.Steps.{goes_on}
use Rattle.command_steps.proofs.StepLemmas.{stopped, part_done, part_stops, still_done, still_stops, gives}
use Rattle.command_steps.proofs.StepCalls.{asks_none}
use Rattle.command_steps.proofs.SelectLemmas.{perhaps_as, chooses_as}
use Rattle.command_steps.proofs.test_selection.select_tests.Goals as goal

pub returns-in_err-listed-clause-step : goal.returns-in_err-listed-clause-step
returns-in_err-listed-clause-step g c = λ input out. part_stops _ c.from_residual.ensures.1 c.in_err-listed.ensures refl

pub returns-in_err-further-clause-step : goal.returns-in_err-further-clause-step
returns-in_err-further-clause-step g c = λ input out.
    part_done _ _ c.in_ok-listed.ensures
    (part_stops _ c.from_residual-in_err-further.ensures.1 c.in_err-further.ensures refl)

pub returns-in_err-failing-clause-step : goal.returns-in_err-failing-clause-step
returns-in_err-failing-clause-step g c = λ input out.
    part_done _ _ c.in_ok-listed.ensures
    (part_done _ _ c.in_ok-further.ensures
    (part_stops _ c.from_residual-in_err-failing.ensures.1 c.in_err-failing.ensures.step refl))

pub returns-in_err-workers-clause-step : goal.returns-in_err-workers-clause-step
returns-in_err-workers-clause-step g c = λ input out.
    part_done _ _ c.in_ok-listed.ensures
    (part_done _ _ c.in_ok-further.ensures
    (part_done _ _ c.in_ok-failing.ensures.step
    (stopped _ c.from_residual-in_err-workers.ensures.1 (c.in_err-workers.ensures.step _ _ _))))

pub returns-in_err-listing-clause-step : goal.returns-in_err-listing-clause-step
returns-in_err-listing-clause-step g c = λ input out.
    part_done _ _ c.in_ok-listed.ensures
    (part_done _ _ c.in_ok-further.ensures
    (part_done _ _ c.in_ok-failing.ensures.step
    (goes_on c.in_ok-workers.workers _ (c.in_ok-workers.ensures.step _ _ _)
    (part_stops _ c.from_residual-in_err-listing.ensures.1 (perhaps_as c.needs_listing.ensures c.in_err-listing.ensures.step) refl))))

pub returns-in_err-ids-clause-step : goal.returns-in_err-ids-clause-step
returns-in_err-ids-clause-step g c = λ input out.
    part_done _ _ c.in_ok-listed.ensures
    (part_done _ _ c.in_ok-further.ensures
    (part_done _ _ c.in_ok-failing.ensures.step
    (goes_on c.in_ok-workers.workers _ (c.in_ok-workers.ensures.step _ _ _)
    (part_done _ _ (perhaps_as c.needs_listing.ensures c.in_ok-listing.ensures.step)
    (still_stops _ c.from_residual-in_err-ids.ensures.1 (record { chosen = tt }) refl)))))

pub returns-clause-step : goal.returns-clause-step
returns-clause-step g c = λ input out.
    part_done _ _ c.in_ok-listed.ensures
    (part_done _ _ c.in_ok-further.ensures
    (part_done _ _ c.in_ok-failing.ensures.step
    (goes_on c.in_ok-workers.workers _ (c.in_ok-workers.ensures.step _ _ _)
    (part_done _ _ (perhaps_as c.needs_listing.ensures c.in_ok-listing.ensures.step)
    (still_done _ (chooses_as _ _ c.in_ok-further.further.picks _ _ _ _ c.requires.picks c.in_ok-ids.ensures)
    gives)))))

pub returns-in_err-listed-clause-calls : goal.returns-in_err-listed-clause-calls
returns-in_err-listed-clause-calls g c = asks_none _ _ _ _
