use Rattle.std.proofs.Common.{◌≡◌, take}
use Rattle.outcome_fold.specs.Answers.{times_of}
use Rattle.outcome_fold.proofs.rows.longest_times.Given as goal

abbrev pub invariant-loop-row : goal.invariant-loop-row
invariant-loop-row l = l.times ≡ times_of (take l.row-index l.rows)
