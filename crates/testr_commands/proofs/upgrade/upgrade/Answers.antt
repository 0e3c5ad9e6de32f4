use Rattle.std.proofs.Common.{refl}
use Rattle.command_steps.proofs.StepLemmas.{part_done, part_stops, gives}
use Rattle.testr_commands.proofs.upgrade.upgrade.Goals as goal

pub returns-in_err-count : goal.returns-in_err-count
returns-in_err-count g c = part_stops _ c.from_residual.ensures.1 c.in_err-count.ensures refl

pub returns-in_err-print_upgraded : goal.returns-in_err-print_upgraded
returns-in_err-print_upgraded g c =
    part_done _ _ c.in_ok-count.ensures
    (part_stops _ c.from_residual-in_err-print_upgraded.ensures.1 c.in_err-print_upgraded.ensures refl)

pub returns : goal.returns
returns g c =
    part_done _ _ c.in_ok-count.ensures
    (part_done _ _ c.in_ok-print_upgraded.ensures
    gives)
