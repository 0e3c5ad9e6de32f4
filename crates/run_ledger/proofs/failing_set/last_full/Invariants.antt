use Rattle.std.proofs.Common.{◌≡◌, ℕ, ◌≤◌, Some, false}
use Rattle.std.specs.Prelude.{slice_get}
use Rattle.run_shelf.specs.Stores.{store_kinds}
use Rattle.run_ledger.proofs.failing_set.last_full.Given as goal

-- no run is full that was looked at
abbrev pub invariant-loop-number : goal.invariant-loop-number
invariant-loop-number g l = (other : ℕ) → l.number ≤ other → slice_get (store_kinds l.store) other ≡ Some false → ⊥
