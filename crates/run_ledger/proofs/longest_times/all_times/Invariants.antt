use Rattle.std.proofs.Common.{◌≡◌, map, take, All}
use Rattle.run_ledger.specs.Caches.{IsTimed}
use Rattle.outcome_fold.specs.Summed.{shown_time}
use Rattle.run_ledger.specs.Merging.{timed_of}
use Rattle.run_ledger.proofs.longest_times.all_times.Given as goal

-- the times of the rows so far
abbrev pub invariant-loop-row : goal.invariant-loop-row
invariant-loop-row l = record {
  times : map shown_time l.times.items ≡ timed_of (take l.row-index l.rows);
  timed : All IsTimed (map shown_time l.times.items);
}
