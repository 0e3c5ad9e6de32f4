use Rattle.std.proofs.Common.{◌≡◌, ◌*◌, ℕ, [], false, IfSome, length}
use Rattle.run_shelf.specs.Stores.{seen_store, Reads}
use Rattle.run_shelf.proofs.ReadingLemmas.{StaysOpen}
use Rattle.suite_causes.specs.Ran.{HasRanIds, HasRanIdsTo, HasRoomForRanIds}
use Rattle.suite_causes.proofs.ran_tests.read_pieces.Given as goal

-- the bytes of the pieces so far were handed on, and the store is as it was
abbrev pub invariant-loop-piece : goal.invariant-loop-piece
invariant-loop-piece g l = record {
  room : length l.buf ≡ 65536;
  space : HasRoomForRanIds l.ran;
  read : (lane : ℕ) → HasRanIds lane l.fn.ran [] → IfSome (g.H.Shelf.seen l.fn.store.shelf.now).told (HasRanIdsTo l.number lane (l.piece * 65536) l.ran);
  same_reference : l.store.shelf.ghost_name ≡ l.fn.store.shelf.ghost_name;
  reads : Reads (seen_store l.fn.store (g.H.Shelf.seen l.fn.store.shelf.now)) (seen_store l.store (g.H.Shelf.seen l.store.shelf.now)) StaysOpen false;
}
