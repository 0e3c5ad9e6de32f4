use Rattle.std.proofs.Common.{◌≡◌, length, List}
use Rattle.stream_reader.specs.declared.note.Note.{Note}
use Rattle.stream_reader.specs.Notes.{events_of}
use Rattle.suite_plan.specs.Gathering.{GathersListing}
use Rattle.suite_plan.specs.Listed.{HasListed}
use Rattle.suite_plan.proofs.notes.gather_notes.Given as goal

-- the notes given so far were gathered in turn
abbrev pub invariant-loop-note : goal.invariant-loop-note
invariant-loop-note l = record {
  gathered : (notes : List Note) → HasListed l.fn.listed (events_of notes) → GathersListing notes l.fn.reader l.reader l.listed;
  ended : l.reader.ended ≡ l.fn.reader.ended;
}

abbrev pub decreases-loop-note : goal.decreases-loop-note
decreases-loop-note l = length l.reader.bytes
