use Rattle.std.proofs.Common.{refl}
use Rattle.command_steps.proofs.StepLemmas.{part_done, part_stops, still_done, still_stops, prints_as, gives}
use Rattle.testr_commands.proofs.ListLemmas.{writes_as}
use Rattle.testr_commands.proofs.list.list.Goals as goal

pub returns-in_err-compiled : goal.returns-in_err-compiled
returns-in_err-compiled g c = λ folder input. still_stops _ c.from_residual.ensures.1 c.in_err-compiled.ensures refl

pub returns-in_err-further : goal.returns-in_err-further
returns-in_err-further g c = λ folder input.
    still_done _ c.in_ok-compiled.ensures
    (part_stops _ c.from_residual-in_err-further.ensures.1 c.in_err-further.ensures refl)

pub returns-in_err-ids : goal.returns-in_err-ids
returns-in_err-ids g c = λ folder input.
    still_done _ c.in_ok-compiled.ensures
    (part_done _ _ c.in_ok-further.ensures
    (part_stops _ c.from_residual-in_err-ids.ensures.1 c.in_err-ids.ensures.step refl))

pub returns-in_err-text : goal.returns-in_err-text
returns-in_err-text g c = λ folder input.
    still_done _ c.in_ok-compiled.ensures
    (part_done _ _ c.in_ok-further.ensures
    (part_done _ _ c.in_ok-ids.ensures.step
    (still_stops _ c.from_residual-in_err-text.ensures.1 (record { lines = tt }) refl)))

pub returns-in_err-print_text : goal.returns-in_err-print_text
returns-in_err-print_text g c = λ folder input.
    still_done _ c.in_ok-compiled.ensures
    (part_done _ _ c.in_ok-further.ensures
    (part_done _ _ c.in_ok-ids.ensures.step
    (still_done c.in_ok-text.text.items (writes_as _ _ _ _ c.in_ok-compiled.compiled c.in_ok-text.text.items c.in_ok-compiled.ensures c.in_ok-text.ensures)
    (part_stops _ c.from_residual-in_err-print_text.ensures.1 (prints_as c.deref.ensures.value c.in_err-print_text.ensures) refl))))

pub returns : goal.returns
returns g c = λ folder input.
    still_done _ c.in_ok-compiled.ensures
    (part_done _ _ c.in_ok-further.ensures
    (part_done _ _ c.in_ok-ids.ensures.step
    (still_done c.in_ok-text.text.items (writes_as _ _ _ _ c.in_ok-compiled.compiled c.in_ok-text.text.items c.in_ok-compiled.ensures c.in_ok-text.ensures)
    (part_done _ _ (prints_as c.deref.ensures.value c.in_ok-print_text.ensures)
    gives))))
