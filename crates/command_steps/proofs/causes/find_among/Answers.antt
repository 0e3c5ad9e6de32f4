use Rattle.std.proofs.Common.{refl}
use Rattle.command_steps.specs.Steps.{stops}
use Rattle.command_steps.proofs.StepLemmas.{part_done, part_stops, prints_as, gives}
use Rattle.command_steps.proofs.causes.find_among.Goals as goal

pub returns-in-Err : goal.returns-in-Err
returns-in-Err g c = λ folder site input. stops c.in-Err.fault refl (record { at = rw c.count_before-count.ensures.count at c.in-Err.ensures.step; rest = refl })

pub returns-in_err-print_cause_line : goal.returns-in_err-print_cause_line
returns-in_err-print_cause_line g c = λ folder site input.
    part_done _ _ (rw c.count_before-count.ensures.count at c.in-Ok.ensures.step)
    (part_stops _ c.from_residual.ensures.1 (prints_as (rw c.count_before-count.ensures.count at c.cause_line.ensures) c.in_err-print_cause_line.ensures) refl)

pub returns : goal.returns
returns g c = λ folder site input.
    part_done _ _ (rw c.count_before-count.ensures.count at c.in-Ok.ensures.step)
    (part_done _ _ (prints_as (rw c.count_before-count.ensures.count at c.cause_line.ensures) c.in_ok-print_cause_line.ensures)
    gives)
