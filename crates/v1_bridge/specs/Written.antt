-- What a writer knows of the notes that it was given.
use Rattle.std.specs.Prelude.{◌≡◌, List}
use Rattle.stream_reader.specs.declared.note.Note.{Note}
use Rattle.outcome_fold.specs.Folded.{HasSeen}
use Rattle.v1_bridge.specs.declared.writer.V1Writer.{V1Writer}
use Rattle.v1_bridge.specs.Writing.{events_in, last_byte}

-- the writer was given these notes
pub record HasWrittenNotes (writer : V1Writer) (notes : List Note) : Type 0 where
  pub seen : HasSeen writer.fold (events_in notes)
  pub last : writer.last ≡ last_byte notes
