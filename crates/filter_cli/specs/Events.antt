-- The events among the notes of a stream, and their packets (docs/FORMATS.md, "Streams").
use Rattle.std.specs.Prelude.{ℕ, Bool, ◌&&◌, Option, Some, None, is_some, List, [], ◌∷◌, map, if◌then◌else◌}
use Rattle.std.specs.List.{flat_map}
use Rattle.std.specs.Option.{option_map, unwrap_or}
use Rattle.packet_codec.specs.declared.event.Event.{Event}
use Rattle.packet_codec.specs.declared.event.FilePart.{FilePart}
pub use Rattle.packet_codec.specs.Canonical.{packets_of}
use Rattle.stream_reader.specs.declared.note.Note.{Note}
use Rattle.stream_reader.specs.declared.note.Note.TheVariants as note
use Rattle.stream_reader.specs.Notes.{event_of}

-- foreign bytes are no event here
abbrev pub event_in : Note → List Event
event_in (note.Event event) = event ∷ []
event_in (note.Foreign bytes) = []

-- the events among the notes, in order, without foreign bytes
abbrev pub events_among : List Note → List Event
events_among notes = flat_map event_in notes

-- output of no test is passed on, unless it is hidden
abbrev pub passed_on : Bool → List ℕ → List ℕ
passed_on hidden bytes = if hidden then [] else bytes

-- the bytes of a file beside which no id stands
abbrev pub loose_at : (id : Option (List ℕ)) → Option FilePart → Option (List ℕ)
loose_at None file = option_map (λ (f : FilePart). f.bytes) file
loose_at (Some id) file = None

-- The loose file of an event, which is output of no test. An event has one where it has a file and no id.
abbrev pub loose_in : Event → Option (List ℕ)
loose_in e = loose_at e.id e.file

-- the bytes of the loose file, and none where there is no such file
abbrev pub loose_bytes : Event → List ℕ
loose_bytes e = unwrap_or (loose_in e) []

-- the event is output of no test, and such output is hidden
abbrev pub is_hidden_output : Bool → Event → Bool
is_hidden_output hidden e = hidden && is_some (loose_in e)

-- the event of a note, unless it is hidden
abbrev pub heard_in : Bool → Note → List Event
heard_in hidden (note.Event event) = if is_hidden_output hidden event then [] else event ∷ []
heard_in hidden (note.Foreign bytes) = []

-- the events that are not hidden
abbrev pub events_heard : Bool → List Note → List Event
events_heard hidden notes = flat_map (heard_in hidden) notes

-- the same notes as events alone, foreign bytes among them as pieces of the file `stdout`
abbrev pub as_events : List Note → List Note
as_events notes = map (λ n. note.Event (event_of n)) notes
