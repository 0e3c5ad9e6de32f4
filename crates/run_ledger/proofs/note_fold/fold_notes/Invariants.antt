use Rattle.std.proofs.Common.{◌≡◌, length, List}
use Rattle.outcome_fold.specs.Outcome.{HasFolded}
use Rattle.stream_reader.specs.declared.note.Note.{Note}
use Rattle.stream_reader.specs.Notes.{events_of}
use Rattle.run_ledger.specs.Reading.{FoldsNotes}
use Rattle.run_ledger.proofs.note_fold.fold_notes.Given as goal

-- the notes given so far were folded in turn
abbrev pub invariant-loop-note : goal.invariant-loop-note
invariant-loop-note l = record {
  folded : (notes : List Note) → HasFolded l.fn.outcomes (events_of notes) → FoldsNotes notes l.fn.reader l.reader l.outcomes;
  ended : l.reader.ended ≡ l.fn.reader.ended;
}

abbrev pub decreases-loop-note : goal.decreases-loop-note
decreases-loop-note l = length l.reader.bytes
