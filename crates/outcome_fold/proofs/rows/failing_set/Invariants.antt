use Rattle.std.proofs.Common.{◌≡◌, take}
use Rattle.outcome_fold.specs.Answers.{failing_of}
use Rattle.outcome_fold.proofs.rows.failing_set.Given as goal

abbrev pub invariant-loop-row : goal.invariant-loop-row
invariant-loop-row l = l.ids ≡ failing_of (take l.row-index l.rows)
