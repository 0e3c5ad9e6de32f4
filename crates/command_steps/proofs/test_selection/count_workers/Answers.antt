use Rattle.std.proofs.Common.{refl}
use Rattle.command_steps.proofs.StepLemmas.{part_done, part_stops, gives}
use Rattle.command_steps.proofs.SelectLemmas.{one_worker, asked_workers, unasked_workers, uses_called, uses_table}
use Rattle.command_steps.proofs.test_selection.count_workers.Goals as goal

pub returns-then-not-parallel-clause-step : goal.returns-then-not-parallel-clause-step
returns-then-not-parallel-clause-step g c = λ folder input out. one_worker _ _ _ _ c.if-not-parallel.true

pub returns-then-asked-gt0-clause-step : goal.returns-then-asked-gt0-clause-step
returns-then-asked-gt0-clause-step g c = λ folder input out. asked_workers _ _ _ _ _ c.if-not-parallel.false c.if-asked-gt0.true c.min.ensures

pub returns-in_err-run_count_command-clause-step : goal.returns-in_err-run_count_command-clause-step
returns-in_err-run_count_command-clause-step g c = λ folder input out.
    unasked_workers _ _ _ _ _ _ c.if-not-parallel.false c.if-asked-gt0.false
    (part_stops _ c.from_residual.ensures.1 c.in_err-run_count_command.ensures.step refl)

pub returns-then-called-gt0-clause-step : goal.returns-then-called-gt0-clause-step
returns-then-called-gt0-clause-step g c = λ folder input out.
    unasked_workers _ _ _ _ _ _ c.if-not-parallel.false c.if-asked-gt0.false
    (part_done _ _ c.in_ok-run_count_command.ensures.step
    (uses_called _ _ _ _ c.unwrap_or-called.ensures c.if-called-gt0.true c.min-then-called-gt0.ensures))

pub returns-in_err-counted-clause-step : goal.returns-in_err-counted-clause-step
returns-in_err-counted-clause-step g c = λ folder input out.
    unasked_workers _ _ _ _ _ _ c.if-not-parallel.false c.if-asked-gt0.false
    (part_done _ _ c.in_ok-run_count_command.ensures.step
    (uses_table _ _ _ _ _ c.unwrap_or-called.ensures c.if-called-gt0.false
    (part_stops _ c.from_residual-in_err-counted.ensures.1 c.in_err-counted.ensures.step refl)))

pub returns-clause-step : goal.returns-clause-step
returns-clause-step g c = λ folder input out.
    unasked_workers _ _ _ _ _ _ c.if-not-parallel.false c.if-asked-gt0.false
    (part_done _ _ c.in_ok-run_count_command.ensures.step
    (uses_table _ _ _ _ _ c.unwrap_or-called.ensures c.if-called-gt0.false
    (part_done _ _ c.in_ok-counted.ensures.step
    gives)))
