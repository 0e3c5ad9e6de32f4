use Rattle.std.proofs.Common.{List, ◌++◌}
use Rattle.outcome_fold.specs.declared.row.Row.{Row}
use Rattle.outcome_fold.specs.Summed.{Sums}
use Rattle.outcome_fold.proofs.summary.Summary.take_all.Given as goal

abbrev pub invariant-loop-row : goal.invariant-loop-row
invariant-loop-row l = (before : List Row) → Sums l.filter_tags before l.fn.self → Sums l.filter_tags (before ++ l.yielded) l.self
