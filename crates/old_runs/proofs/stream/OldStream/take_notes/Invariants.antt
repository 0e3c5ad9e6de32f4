use Rattle.std.proofs.Common.{◌≡◌, List, length}
use Rattle.std.specs.List.{list_any}
use Rattle.stream_reader.specs.declared.note.Note.{Note}
use Rattle.stream_reader.specs.Notes.{events_of}
use Rattle.old_runs.specs.Files.{has_id}
use Rattle.old_runs.specs.Streams.{HandsOnNotes}
use Rattle.old_runs.proofs.stream.OldStream.take_notes.Given as goal

-- the notes given so far were taken in turn
abbrev pub invariant-loop-note : goal.invariant-loop-note
invariant-loop-note l = record {
  taken : (notes : List Note) → l.fn.self.told ≡ list_any has_id (events_of notes) → HandsOnNotes notes l.fn.self l.self l.fn.packets.items l.packets.items;
  ended : l.self.reader.ended ≡ l.fn.self.reader.ended;
}

abbrev pub decreases-loop-note : goal.decreases-loop-note
decreases-loop-note l = length l.self.reader.bytes
