use Rattle.std.specs.Prelude.{◌≡◌, ◌++◌, ◌≤◌, All, length, max}
use Rattle.std.specs.List.{flat_map}
use Rattle.packet_rows.proofs.streams.push_pieces.Given as goal

abbrev pub invariant-loop-piece : goal.invariant-loop-piece
invariant-loop-piece l = record {
  -- what was cut off, and what is left
  joined : flat_map (λ piece. piece) l.pieces.items ++ l.piece-iterator.rest.now ≡ flat_map (λ piece. piece) l.initial.pieces.items ++ l.stream;
  sizes : All (λ piece. length piece ≤ max l.size 1) l.initial.pieces.items → All (λ piece. length piece ≤ max l.size 1) l.pieces.items;
}
