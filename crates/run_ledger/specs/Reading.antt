-- What a run that is read in pieces has given so far (docs/FORMATS.md, "Streams" and "The fold").
use Rattle.std.specs.Prelude.{◌≡◌, ℕ, List}
use Rattle.packet_codec.specs.declared.event.Event.{Event}
use Rattle.stream_reader.specs.declared.note.Note.{Note}
use Rattle.stream_reader.specs.Notes.{HasEvents, events_of}
use Rattle.stream_reader.specs.Stream.{Held, BeginsWithNotes, GivesNotes}
use Rattle.outcome_fold.specs.declared.fold.Outcomes.{Outcomes}
use Rattle.outcome_fold.specs.declared.row.Row.{Row}
use Rattle.outcome_fold.specs.declared.summary.Summary.{Summary}
use Rattle.outcome_fold.specs.Outcome.{HasFolded}
use Rattle.outcome_fold.specs.Rows.{rows_of}
use Rattle.outcome_fold.specs.Summed.{Sums}
use Rattle.run_ledger.specs.declared.run_reader.RunReader.{RunReader}

-- the events of the run's bytes have these rows
pub record AreRowsOf (bytes : List ℕ) (rows : List Row) : Type 0 where
  pub events : List Event
  pub told : HasEvents bytes events
  pub folded : rows ≡ rows_of events

-- this is kept of the rows of the run's bytes
pub record SumsRowsOf (filter_tags : List (List ℕ)) (bytes : List ℕ) (summary : Summary) : Type 0 where
  pub rows : List Row
  pub are : AreRowsOf bytes rows
  pub sums : Sums filter_tags rows summary

-- the notes that the bytes so far decide were folded, and the rest of the bytes is held
pub record HasReadBytes (run : RunReader) (bytes : List ℕ) : Type 0 where
  pub notes : List Note
  pub begins : BeginsWithNotes bytes notes run.reader.bytes
  pub folded : HasFolded run.outcomes (events_of notes)

-- the next notes were given, and folded behind those before
pub record FoldsNotes (notes : List Note) (before after : Held) (outcomes : Outcomes) : Type 0 where
  pub all : List Note
  pub given : GivesNotes before notes after all
  pub folded : HasFolded outcomes (events_of all)
