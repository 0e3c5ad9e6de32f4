use Rattle.std.proofs.Common.{◌≡◌, ◌++◌, length}
use Rattle.std.specs.List.{flat_map}
use Rattle.run_shelf.specs.IdFiles.{with_zero, AreIds}
use Rattle.run_ledger.proofs.failing_cache.read_entries.Given as goal

-- the ids so far, in order, and the bytes behind them
abbrev pub invariant-loop-id : goal.invariant-loop-id
invariant-loop-id l = record {
  is : l.fn.bytes ≡ flat_map with_zero l.ids ++ l.rest;
  are : AreIds l.ids;
}

abbrev pub decreases-loop-id : goal.decreases-loop-id
decreases-loop-id l = length l.rest
