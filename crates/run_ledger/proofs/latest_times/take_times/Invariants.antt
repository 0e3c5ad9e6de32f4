use Rattle.std.proofs.Common.{◌≡◌, ◌≤◌, false, IfSome}
use Rattle.run_shelf.specs.Stores.{seen_store, Reads}
use Rattle.run_shelf.proofs.ReadingLemmas.{StaysOpen}
use Rattle.run_ledger.specs.Costs.{ReadsTo}
use Rattle.run_ledger.specs.Ledger.{times_after}
use Rattle.run_ledger.specs.SoFar.{SaysTo}
use Rattle.run_ledger.proofs.latest_times.take_times.Given as goal

-- The times are those of the runs so far, where they were those of the runs before; each was read once; and the store is
-- as it was.
abbrev pub invariant-loop-number : goal.invariant-loop-number
invariant-loop-number g l = record {
  bound : l.number ≤ l.fn.end;
  times : IfSome (g.H.Shelf.seen l.fn.store.shelf.now).told (SaysTo times_after l.fn.start l.fn.latest) → IfSome (g.H.Shelf.seen l.fn.store.shelf.now).told (SaysTo times_after l.number l.latest);
  same_reference : l.store.shelf.ghost_name ≡ l.fn.store.shelf.ghost_name;
  reads : Reads (seen_store l.fn.store (g.H.Shelf.seen l.fn.store.shelf.now)) (seen_store l.store (g.H.Shelf.seen l.store.shelf.now)) StaysOpen false;
  time : IfSome (g.H.Shelf.seen l.fn.store.shelf.now).told (ReadsTo l.fn.start l.number (g.H.Shelf.clock l.fn.store.shelf.now) (g.H.Shelf.clock l.store.shelf.now));
}
