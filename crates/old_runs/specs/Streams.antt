-- A stream of packets that is read as its bytes come.
use Rattle.std.specs.Prelude.{◌≡◌, ℕ, ◌≤◌, false, List, ◌++◌, length}
use Rattle.std.specs.List.{list_any}
use Rattle.packet_codec.specs.declared.event.Event.{Event}
use Rattle.stream_reader.specs.declared.note.Note.{Note}
use Rattle.stream_reader.specs.Notes.{events_of}
use Rattle.stream_reader.specs.Room.{most_held}
use Rattle.stream_reader.specs.Stream.{BeginsWithNotes, GivesNotes}
use Rattle.old_runs.specs.declared.stream.OldStream.{OldStream}
use Rattle.old_runs.specs.Files.{has_id}
use Rattle.old_runs.specs.Giving.{AppendsEvents}

-- these bytes were fed, and these events were handed on
pub record HasFedStream (stream : OldStream) (bytes : List ℕ) (given : List Event) : Type 0 where
  pub notes : List Note
  pub begins : BeginsWithNotes bytes notes stream.reader.bytes
  pub made : given ≡ events_of notes
  pub told : stream.told ≡ list_any has_id given

-- the stream has not ended, and there is room for a part more
pub record AreGoingOn (stream : OldStream) : Type 0 where
  pub going_on : stream.reader.ended ≡ false
  pub held : length stream.reader.bytes ≤ most_held

-- the next notes were taken, and their events were handed on
pub record HandsOnNotes (notes : List Note) (before after : OldStream) (old new : List ℕ) : Type 0 where
  pub all : List Note
  pub given : GivesNotes before.reader notes after.reader all
  pub told : after.told ≡ list_any has_id (events_of all)
  pub put : AppendsEvents old new (λ more. events_of all ≡ events_of notes ++ more)
