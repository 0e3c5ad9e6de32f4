use Rattle.std.proofs.Common.{refl}
use Rattle.command_steps.proofs.StepLemmas.{still_stops, still_done, part_done, part_stops, prints_as, gives}
use Rattle.testr_commands.proofs.selftest.selftest.Goals as goal

pub returns-in_err-told : goal.returns-in_err-told
returns-in_err-told g c = λ folder site spawner input. still_stops _ c.from_residual.ensures.1 c.in_err-told.ensures refl

pub returns-in_err-print_text : goal.returns-in_err-print_text
returns-in_err-print_text g c = λ folder site spawner input.
    still_done _ c.in_ok-told.ensures
    (part_stops _ c.from_residual-in_err-print_text.ensures.1 (prints_as c.deref.ensures.value c.in_err-print_text.ensures) refl)

pub returns : goal.returns
returns g c = λ folder site spawner input.
    still_done _ c.in_ok-told.ensures
    (part_done _ _ (prints_as c.deref.ensures.value c.in_ok-print_text.ensures)
    gives)
