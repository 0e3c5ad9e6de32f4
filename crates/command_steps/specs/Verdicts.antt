-- Whether the tests of a run passed, and the status that says so (docs/COMMANDS.md, "Refusals").
use Rattle.std.specs.Prelude.{ℕ, List, if◌then◌else◌}
use Rattle.std.specs.List.{list_any}
use Rattle.outcome_fold.specs.declared.row.Row.{Row}
use Rattle.outcome_fold.specs.Answers.{row_fails}
use Rattle.command_steps.specs.declared.answer.Verdict.{Verdict}
use Rattle.command_steps.specs.declared.answer.Verdict.TheVariants.{Passed, Failed}

-- whether the tests of these rows passed, which they did where no row fails
abbrev pub verdict_of : List Row → Verdict
verdict_of rows = if list_any row_fails rows then Failed else Passed

-- the exit status of a verdict: 0 where the tests passed, 1 where one failed
abbrev pub verdict_exit_status : Verdict → ℕ
verdict_exit_status Passed = 0
verdict_exit_status Failed = 1
