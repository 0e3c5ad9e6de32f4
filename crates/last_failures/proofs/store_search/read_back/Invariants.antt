use Rattle.std.proofs.Common.{◌≡◌, ◌≤◌, false, length, IfSome}
use Rattle.run_shelf.specs.Stores.{store_kinds, seen_store, Reads}
use Rattle.run_shelf.proofs.ReadingLemmas.{StaysOpen}
use Rattle.run_ledger.specs.Costs.{ReadsFrom}
use Rattle.last_failures.specs.Looking.{LooksOn}
use Rattle.last_failures.proofs.store_search.read_back.Given as goal

-- The runs from this number on were looked at; each was read once; and the store is as it was.
abbrev pub invariant-loop-number : goal.invariant-loop-number
invariant-loop-number g l = record {
  high : l.number ≤ length (store_kinds l.fn.store);
  found : IfSome (g.H.Shelf.seen l.fn.store.shelf.now).told (LooksOn l.packets (length (store_kinds l.fn.store)) l.number l.fn.search l.search);
  same_reference : l.store.shelf.ghost_name ≡ l.fn.store.shelf.ghost_name;
  reads : Reads (seen_store l.fn.store (g.H.Shelf.seen l.fn.store.shelf.now)) (seen_store l.store (g.H.Shelf.seen l.store.shelf.now)) StaysOpen false;
  time : IfSome (g.H.Shelf.seen l.fn.store.shelf.now).told (ReadsFrom l.number (g.H.Shelf.clock l.fn.store.shelf.now) (g.H.Shelf.clock l.store.shelf.now));
}

abbrev pub decreases-loop-number : goal.decreases-loop-number
decreases-loop-number g l = l.number
