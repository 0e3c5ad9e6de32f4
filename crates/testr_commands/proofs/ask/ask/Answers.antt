use Rattle.std.proofs.Common.{refl}
use Rattle.testr_commands.proofs.AskLemmas.{of_bytes, of_text, by_copy, by_text}
use Rattle.testr_commands.proofs.SparingLemmas.{opens_spare, opened_spare, bytes_spare, looked, found}
use Rattle.command_steps.proofs.StepLemmas.{still_done, part_done, still_stops, part_stops, stopped, prints_as, gives}
use Rattle.command_steps.specs.Steps.{goes_on}
use Rattle.testr_commands.proofs.ask.ask.Goals as goal

pub returns-in_err-found-clause-step : goal.returns-in_err-found-clause-step
returns-in_err-found-clause-step g c = part_stops _ c.from_residual.ensures.1 c.in_err-found.ensures.step refl

pub returns-in_err-check_has_run-clause-step : goal.returns-in_err-check_has_run-clause-step
returns-in_err-check_has_run-clause-step g c =
    part_done _ _ c.in_ok-found.ensures.step
    (still_stops _ c.from_residual-in_err-check_has_run.ensures.1 c.in_err-check_has_run.ensures refl)

pub returns-in_err-copy_last-clause-step : goal.returns-in_err-copy_last-clause-step
returns-in_err-copy_last-clause-step g c =
    part_done _ _ c.in_ok-found.ensures.step
    (still_done _ c.in_ok-check_has_run.ensures
    (by_copy c.in_ok-found.found _ _ _ c.args.question (of_bytes _ _ c.is_of_bytes.ensures c.if-is_of_bytes.true)
    (stopped _ c.from_residual-in_err-copy_last.ensures.1 c.in_err-copy_last.ensures)))

pub returns-then-is_of_bytes-clause-step : goal.returns-then-is_of_bytes-clause-step
returns-then-is_of_bytes-clause-step g c =
    part_done _ _ c.in_ok-found.ensures.step
    (still_done _ c.in_ok-check_has_run.ensures
    (by_copy c.in_ok-found.found _ _ _ c.args.question (of_bytes _ _ c.is_of_bytes.ensures c.if-is_of_bytes.true)
    (goes_on _ _ c.in_ok-copy_last.ensures gives)))

pub returns-in_err-told-clause-step : goal.returns-in_err-told-clause-step
returns-in_err-told-clause-step g c =
    part_done _ _ c.in_ok-found.ensures.step
    (still_done _ c.in_ok-check_has_run.ensures
    (by_text c.in_ok-found.found _ _ _ c.args.question (of_text _ _ c.is_of_bytes.ensures c.if-is_of_bytes.false)
    (part_stops _ c.from_residual-in_err-told.ensures.1 c.in_err-told.ensures.step refl)))

pub returns-in_err-print_text-clause-step : goal.returns-in_err-print_text-clause-step
returns-in_err-print_text-clause-step g c =
    part_done _ _ c.in_ok-found.ensures.step
    (still_done _ c.in_ok-check_has_run.ensures
    (by_text c.in_ok-found.found _ _ _ c.args.question (of_text _ _ c.is_of_bytes.ensures c.if-is_of_bytes.false)
    (part_done c.in_ok-told.told _ c.in_ok-told.ensures.step
    (part_stops _ c.from_residual-in_err-print_text.ensures.1 (prints_as c.deref.ensures.value c.in_err-print_text.ensures) refl))))

pub returns-clause-step : goal.returns-clause-step
returns-clause-step g c =
    part_done _ _ c.in_ok-found.ensures.step
    (still_done _ c.in_ok-check_has_run.ensures
    (by_text c.in_ok-found.found _ _ _ c.args.question (of_text _ _ c.is_of_bytes.ensures c.if-is_of_bytes.false)
    (part_done c.in_ok-told.told _ c.in_ok-told.ensures.step
    (part_done _ _ (prints_as c.deref.ensures.value c.in_ok-print_text.ensures)
    gives))))

-- ---- how many calls there were

pub returns-in_err-found-clause-spares : goal.returns-in_err-found-clause-spares
returns-in_err-found-clause-spares g c = λ list is. opens_spare _ _ _ c.in_err-found.ensures.time

pub returns-in_err-check_has_run-clause-spares : goal.returns-in_err-check_has_run-clause-spares
returns-in_err-check_has_run-clause-spares g c = λ list is. opens_spare _ _ _ c.in_ok-found.ensures.time

pub returns-in_err-copy_last-clause-spares : goal.returns-in_err-copy_last-clause-spares
returns-in_err-copy_last-clause-spares g c = bytes_spare _ c.args.question _ _ _ (of_bytes _ _ c.is_of_bytes.ensures c.if-is_of_bytes.true)

pub returns-then-is_of_bytes-clause-spares : goal.returns-then-is_of_bytes-clause-spares
returns-then-is_of_bytes-clause-spares g c = bytes_spare _ c.args.question _ _ _ (of_bytes _ _ c.is_of_bytes.ensures c.if-is_of_bytes.true)

pub returns-in_err-told-clause-spares : goal.returns-in_err-told-clause-spares
returns-in_err-told-clause-spares g c = λ list is. opened_spare _ _ _ _ _ _ c.in_ok-found.ensures.step.found c.in_ok-found.ensures.time (c.in_err-told.ensures.spares list is)

pub returns-in_err-print_text-clause-spares : goal.returns-in_err-print_text-clause-spares
returns-in_err-print_text-clause-spares g c = λ list is. opened_spare _ _ _ _ _ _ c.in_ok-found.ensures.step.found c.in_ok-found.ensures.time (c.in_ok-told.ensures.spares list is)

pub returns-clause-spares : goal.returns-clause-spares
returns-clause-spares g c = λ list is. opened_spare _ _ _ _ _ _ c.in_ok-found.ensures.step.found c.in_ok-found.ensures.time (c.in_ok-told.ensures.spares list is)

-- ---- in a folder that is no repository

pub returns-in_err-found-clause-looks : goal.returns-in_err-found-clause-looks
returns-in_err-found-clause-looks g c = looked _ _ _ c.in_err-found.ensures.time

pub returns-in_err-check_has_run-clause-looks : goal.returns-in_err-check_has_run-clause-looks
returns-in_err-check_has_run-clause-looks g c = found _ _ _ _ _ c.in_ok-found.ensures.step.found

pub returns-in_err-copy_last-clause-looks : goal.returns-in_err-copy_last-clause-looks
returns-in_err-copy_last-clause-looks g c = found _ _ _ _ _ c.in_ok-found.ensures.step.found

pub returns-then-is_of_bytes-clause-looks : goal.returns-then-is_of_bytes-clause-looks
returns-then-is_of_bytes-clause-looks g c = found _ _ _ _ _ c.in_ok-found.ensures.step.found

pub returns-in_err-told-clause-looks : goal.returns-in_err-told-clause-looks
returns-in_err-told-clause-looks g c = found _ _ _ _ _ c.in_ok-found.ensures.step.found

pub returns-in_err-print_text-clause-looks : goal.returns-in_err-print_text-clause-looks
returns-in_err-print_text-clause-looks g c = found _ _ _ _ _ c.in_ok-found.ensures.step.found

pub returns-clause-looks : goal.returns-clause-looks
returns-clause-looks g c = found _ _ _ _ _ c.in_ok-found.ensures.step.found
