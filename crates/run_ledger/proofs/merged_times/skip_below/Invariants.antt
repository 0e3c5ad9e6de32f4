use Rattle.std.proofs.Common.{◌≤◌, List, ℕ, length}
use Rattle.run_ledger.specs.Merging.{AreEntriesOfTimes}
use Rattle.run_ledger.proofs.MergeLemmas.{SkipsTo}
use Rattle.run_ledger.proofs.merged_times.skip_below.Given as goal

-- the entries that were passed are below the id
abbrev pub invariant-loop-first : goal.invariant-loop-first
invariant-loop-first l = record {
  skipped : (each : List (List ℕ × ℕ)) → AreEntriesOfTimes l.entries each → SkipsTo l.id l.rest each;
  short : length l.rest ≤ length l.entries;
}

abbrev pub decreases-loop-first : goal.decreases-loop-first
decreases-loop-first l = length l.rest
