use Rattle.std.proofs.Common.{◌≡◌, map, take}
use Rattle.outcome_fold.specs.Order.{without}
use Rattle.outcome_fold.specs.Longest.{kept_time}
use Rattle.outcome_fold.proofs.longest_times.LongestTimes.remove_from.Given as goal

abbrev pub invariant-loop-time : goal.invariant-loop-time
invariant-loop-time l = l.ids ≡ without l.fn.ids (map (λ time. (kept_time time).0) (take l.time-index l.time-items))
