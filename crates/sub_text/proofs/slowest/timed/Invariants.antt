use Rattle.std.proofs.Common.{◌≡◌, map, take}
use Rattle.outcome_fold.specs.Answers.{timed_rows}
use Rattle.sub_text.proofs.slowest.timed.Given as goal

abbrev pub invariant-loop-row : goal.invariant-loop-row
invariant-loop-row l = map (λ row. row.now) l.timed.items ≡ timed_rows (take l.row-index l.rows)
