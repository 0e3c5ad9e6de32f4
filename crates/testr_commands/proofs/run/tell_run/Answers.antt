use Rattle.std.proofs.Common.{refl}
use Rattle.std.specs.List.{filter}
use Rattle.outcome_fold.specs.Answers.{row_fails}
use Rattle.command_steps.specs.Reporting.{report_shown}
use Rattle.command_steps.specs.Steps.{stops}
use Rattle.command_steps.proofs.StepLemmas.{part_done, part_stops, still_done, gives}
use Rattle.testr_commands.proofs.run.tell_run.Goals as goal

pub returns-in-Err : goal.returns-in-Err
returns-in-Err g c = λ folder site spawner input tags rows sums. stops c.in-Err.fault refl (record { says = c.in-Err.ensures tags rows sums; same = refl })

pub returns-in_err-print_report : goal.returns-in_err-print_report
returns-in_err-print_report g c = λ folder site spawner input tags rows sums.
    still_done (report_shown (filter row_fails rows) c.in-Ok.ending) (c.in-Ok.ensures tags rows sums)
    (part_stops _ c.from_residual.ensures.1 (c.in_err-print_report.ensures tags rows sums) refl)

pub returns : goal.returns
returns g c = λ folder site spawner input tags rows sums.
    still_done (report_shown (filter row_fails rows) c.in-Ok.ending) (c.in-Ok.ensures tags rows sums)
    (part_done _ _ (c.in_ok-print_report.ensures tags rows sums)
    gives)
