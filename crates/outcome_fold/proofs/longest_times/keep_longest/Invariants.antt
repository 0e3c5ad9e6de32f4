use Rattle.std.proofs.Common.{◌≡◌, ◌++◌, map, drop}
use Rattle.outcome_fold.specs.Summed.{shown_time}
use Rattle.outcome_fold.specs.Longest.{last_of_each}
use Rattle.outcome_fold.proofs.longest_times.keep_longest.Given as goal

-- those kept so far, and those that will be
abbrev pub invariant-loop-place : goal.invariant-loop-place
invariant-loop-place l = map shown_time l.longest.items ++ last_of_each (map shown_time (drop l.place l.sorted)) ≡ last_of_each (map shown_time l.sorted)
