use Rattle.std.proofs.Common.{◌≡◌, length, List}
use Rattle.stream_reader.specs.declared.note.Note.{Note}
use Rattle.stream_reader.specs.Notes.{events_of}
use Rattle.suite_causes.specs.Ran.{GathersRanIds, all_ran}
use Rattle.suite_causes.proofs.lane_ids.gather_notes.Given as goal

-- the notes given so far were gathered in turn
abbrev pub invariant-loop-note : goal.invariant-loop-note
invariant-loop-note l = record {
  gathered : (notes : List Note) → l.fn.ids ≡ all_ran l.lane (events_of notes) → GathersRanIds l.lane notes l.fn.reader l.reader l.ids;
  ended : l.reader.ended ≡ l.fn.reader.ended;
}

abbrev pub decreases-loop-note : goal.decreases-loop-note
decreases-loop-note l = length l.reader.bytes
