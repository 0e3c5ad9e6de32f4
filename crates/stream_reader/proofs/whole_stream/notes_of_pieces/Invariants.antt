use Rattle.std.proofs.Common.{◌≡◌, ◌≤◌, false, take, length}
use Rattle.std.specs.List.{flat_map}
use Rattle.stream_reader.specs.Room.{most_held}
use Rattle.stream_reader.specs.Stream.{BeginsWithNotes}
use Rattle.stream_reader.proofs.whole_stream.notes_of_pieces.Given as goal

-- the notes so far, and what is held, are those of the pieces so far
abbrev pub invariant-loop-piece : goal.invariant-loop-piece
invariant-loop-piece l = record {
  going_on : l.reader.ended ≡ false;
  held : length l.reader.bytes ≤ most_held;
  notes : BeginsWithNotes (flat_map (λ piece. piece) (take l.piece-index l.pieces)) l.notes.items l.reader.bytes;
}
