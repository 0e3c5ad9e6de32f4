-- What a filter of notes writes, as a function of the notes.
use Rattle.std.specs.Prelude.{◌≡◌, ℕ, List, ◌++◌}
use Rattle.stream_reader.specs.declared.note.Note.{Note}
use Rattle.filter_cli.specs.Script.{Script, given_by}
use Rattle.stream_reader.specs.Notes.{HasNotes, HasDecided}

-- what a filter writes at each note and at the end of a stream, and its status, each by the notes so far
abbrev pub Plan : Type 0
Plan = Script Note

-- the text that the first bytes of a stream decide, whatever follows
pub record IsSeen (plan : Plan) (bytes text : List ℕ) : Type 0 where
  pub notes : List Note
  pub decided : HasDecided bytes notes
  pub made : text ≡ given_by plan notes

-- the text of a whole stream, and its status
pub record IsFiltered (plan : Plan) (bytes text : List ℕ) (answer : ℕ) : Type 0 where
  pub notes : List Note
  pub told : HasNotes bytes notes
  pub made : text ≡ given_by plan notes ++ plan.at_end notes
  pub status : answer ≡ plan.status notes
