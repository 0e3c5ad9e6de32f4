use Rattle.std.proofs.Common.{◌<◌, ◌^◌, List, ℕ, map, take, drop, All}
use Rattle.outcome_fold.specs.Summed.{shown_time}
use Rattle.run_ledger.specs.Merging.{AreEntriesOfTimes, merged}
use Rattle.run_ledger.proofs.MergeLemmas.{MergedTo}
use Rattle.run_ledger.proofs.merged_times.merge.Given as goal

-- the bytes so far are the first of the merged entries, and the times so far are small enough
abbrev pub invariant-loop-timed : goal.invariant-loop-timed
invariant-loop-timed l = record {
  merges : (entries : List (List ℕ × ℕ)) → AreEntriesOfTimes l.earlier entries → MergedTo l.bytes.items l.rest (map shown_time (drop l.timed-index l.later)) (merged entries (map shown_time l.later));
  small : All (λ timed. timed.nanos < 2 ^ 64) (take l.timed-index l.later);
}
