use Rattle.std.proofs.Common.{◌≡◌, ◌+◌, ◌*◌, ◌≤◌, false, IfSome, length}
use Rattle.run_shelf.specs.Stores.{seen_store, Reads}
use Rattle.run_shelf.proofs.ReadingLemmas.{StaysOpen}
use Rattle.last_failures.specs.Gathering.{HasPartsTo, HasRoomForParts}
use Rattle.last_failures.proofs.runs.read_pieces.Given as goal

-- the bytes of the pieces so far were handed on, each by one call, and the store is as it was
abbrev pub invariant-loop-piece : goal.invariant-loop-piece
invariant-loop-piece g l = record {
  room : length l.buf ≡ 65536;
  space : HasRoomForParts l.run;
  read : IfSome (g.H.Shelf.seen l.fn.store.shelf.now).told (HasPartsTo l.wanted l.number (l.piece * 65536) l.run);
  same_reference : l.store.shelf.ghost_name ≡ l.fn.store.shelf.ghost_name;
  reads : Reads (seen_store l.fn.store (g.H.Shelf.seen l.fn.store.shelf.now)) (seen_store l.store (g.H.Shelf.seen l.store.shelf.now)) StaysOpen false;
  time : g.H.Shelf.clock l.store.shelf.now ≤ g.H.Shelf.clock l.fn.store.shelf.now + l.piece;
}
