use Rattle.std.proofs.Common.{List, ◌++◌, take}
use Rattle.outcome_fold.specs.declared.row.Row.{Row}
use Rattle.outcome_fold.proofs.row_listener.hear_rows.Given as goal

abbrev pub invariant-loop-row : goal.invariant-loop-row
invariant-loop-row g l = (begun : _) (before : List Row) → g.L.RowListener.heard begun l.fn.listener before → g.L.RowListener.heard begun l.listener (before ++ take l.row-index l.rows)
