use Rattle.std.proofs.Common.{◌≡◌, length, List}
use Rattle.stream_reader.specs.declared.note.Note.{Note}
use Rattle.stream_reader.specs.Notes.{events_of}
use Rattle.last_failures.specs.Gathering.{GathersParts, HasGatheredParts}
use Rattle.last_failures.proofs.gathered_parts.gather_notes.Given as goal

-- the notes given so far were gathered in turn
abbrev pub invariant-loop-note : goal.invariant-loop-note
invariant-loop-note l = record {
  gathers : (notes : List Note) → HasGatheredParts l.wanted l.fn.gathered (events_of notes) → GathersParts l.wanted notes l.fn.reader l.reader l.gathered;
  ended : l.reader.ended ≡ l.fn.reader.ended;
}

abbrev pub decreases-loop-note : goal.decreases-loop-note
decreases-loop-note l = length l.reader.bytes
