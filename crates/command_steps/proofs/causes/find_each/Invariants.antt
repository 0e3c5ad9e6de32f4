use Rattle.std.proofs.Common.{◌≡◌, ℕ, None, List, drop}
use Rattle.edge_io.specs.Disk.{Files}
use Rattle.edge_io.specs.Seen.{Seen}
use Rattle.run_shelf.specs.Stores.{store_kinds, store_fault, FitsUnlessBroken}
use Rattle.command_steps.specs.Causes.{AreRanLists}
use Rattle.command_steps.specs.Outside.{work}
use Rattle.command_steps.proofs.FindingLemmas.{LeadsTo}
use Rattle.command_steps.proofs.causes.find_each.Given as goal

-- the first tests were searched
abbrev pub invariant-loop-suspect : goal.invariant-loop-suspect
invariant-loop-suspect g l = record {
  same_reference : l.store.shelf.ghost_name ≡ l.fn.store.shelf.ghost_name;
  unbroken : store_fault l.store ≡ None;
  kinds : store_kinds l.store ≡ store_kinds l.fn.store;
  fits : FitsUnlessBroken (store_kinds l.store) (store_fault l.store) (g.H.Shelf.seen l.store.shelf.now).told;
  lists : AreRanLists l.number l.lists.items (g.H.Shelf.seen l.store.shelf.now).told;
  step : (site : Seen Files) (input : Seen (List ℕ)) → LeadsTo l.conf l.number l.suspects (drop l.suspect-index l.suspects) (work (g.H.Shelf.seen l.fn.store.shelf.now) site (g.S.Spawner.seen l.fn.spawner) input (g.O.Sink.seen l.fn.out)) (work (g.H.Shelf.seen l.store.shelf.now) site (g.S.Spawner.seen l.spawner) input (g.O.Sink.seen l.out));
}
