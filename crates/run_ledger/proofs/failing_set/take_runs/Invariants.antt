use Rattle.std.proofs.Common.{◌≡◌, ◌≤◌, false, IfSome}
use Rattle.run_shelf.specs.Stores.{store_kinds, seen_store, Reads}
use Rattle.run_shelf.proofs.ReadingLemmas.{StaysOpen}
use Rattle.run_ledger.specs.Costs.{ReadsTo}
use Rattle.run_ledger.specs.SoFar.{FailsTo}
use Rattle.run_ledger.proofs.failing_set.take_runs.Given as goal

-- The ids are the failing set of the runs so far, where they were that of the runs before; each was read once; and the
-- store is as it was.
abbrev pub invariant-loop-number : goal.invariant-loop-number
invariant-loop-number g l = record {
  bound : l.number ≤ l.fn.end;
  ids : IfSome (g.H.Shelf.seen l.fn.store.shelf.now).told (FailsTo (store_kinds l.fn.store) l.fn.start l.fn.failed) → IfSome (g.H.Shelf.seen l.fn.store.shelf.now).told (FailsTo (store_kinds l.fn.store) l.number l.failed);
  same_reference : l.store.shelf.ghost_name ≡ l.fn.store.shelf.ghost_name;
  reads : Reads (seen_store l.fn.store (g.H.Shelf.seen l.fn.store.shelf.now)) (seen_store l.store (g.H.Shelf.seen l.store.shelf.now)) StaysOpen false;
  time : IfSome (g.H.Shelf.seen l.fn.store.shelf.now).told (ReadsTo l.fn.start l.number (g.H.Shelf.clock l.fn.store.shelf.now) (g.H.Shelf.clock l.store.shelf.now));
}
