use Rattle.std.proofs.Common.{◌≡◌, ◌≤◌, false, length}
use Rattle.stream_reader.specs.Room.{most_held}
use Rattle.stream_reader.proofs.TurnLemmas.{IsReadTo}
use Rattle.stream_reader.proofs.whole_stream.read_piece.Given as goal

-- the notes so far, and what is held, are those of the parts so far
abbrev pub invariant-loop-left : goal.invariant-loop-left
invariant-loop-left l = record {
  going_on : l.reader.ended ≡ false;
  held : length l.reader.bytes ≤ most_held;
  read : IsReadTo l.fn.reader.bytes l.fn.notes.items l.reader.bytes l.notes.items l.piece l.left;
}

abbrev pub decreases-loop-left : goal.decreases-loop-left
decreases-loop-left l = length l.left
