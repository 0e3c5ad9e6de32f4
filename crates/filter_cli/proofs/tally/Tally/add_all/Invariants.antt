use Rattle.std.proofs.Common.{◌++◌, List, take}
use Rattle.outcome_fold.specs.declared.row.Row.{Row}
use Rattle.filter_cli.specs.Tally.{HasTallied}
use Rattle.filter_cli.proofs.tally.Tally.add_all.Given as goal

abbrev pub invariant-loop-row : goal.invariant-loop-row
invariant-loop-row l = (before : List Row) → HasTallied l.fn.self before → HasTallied l.self (before ++ take l.row-index l.rows)
