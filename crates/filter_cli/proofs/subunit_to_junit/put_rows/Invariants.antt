use Rattle.std.proofs.Common.{List, ◌++◌}
use Rattle.outcome_fold.specs.declared.row.Row.{Row}
use Rattle.filter_cli.specs.JunitCases.{HasCases}
use Rattle.filter_cli.proofs.subunit_to_junit.put_rows.Given as goal

abbrev pub invariant-loop-row : goal.invariant-loop-row
invariant-loop-row l = (before : List Row) → HasCases l.fn.cases before → HasCases l.cases (before ++ l.yielded)
