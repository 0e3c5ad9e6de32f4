-- What a file of a folder of the original tool says, and when it is damaged (docs/FORMATS.md, "Folders of another
-- program").
use Rattle.std.specs.Prelude.{◌≡◌, ◌⊎◌, ℕ, ◌<◌, ◌==◌, Bool, true, false, not, is_some, List, [], ◌∷◌, ◌++◌, length}
use Rattle.std.specs.List.{flat_map, list_any}
use Rattle.packet_codec.specs.Packet.{signature}
use Rattle.packet_codec.specs.declared.event.Event.{Event}
use Rattle.stream_reader.specs.Notes.{HasEvents}
use Rattle.outcome_fold.specs.Rows.{rows_of}
use Rattle.outcome_fold.specs.Answers.{failing_of}
use Rattle.v1_bridge.specs.Cutting.{lines_of}
use Rattle.v1_bridge.specs.Reading.{Input, inputs_of, start, state_behind, events_given_behind, v1_events}
use Rattle.old_runs.specs.Places.{IsAmongParts}

-- ---- what it says

-- the file is a stream of packets: it begins as each of them does
abbrev pub is_stream : List ℕ → Bool
is_stream [] = false
is_stream (byte ∷ bytes) = byte == signature

-- the events of a stream, or of lines of version 1
abbrev pub AreEventsBy : (stream : Bool) → List ℕ → List Event → Type 0
AreEventsBy true bytes events = HasEvents bytes events
AreEventsBy false bytes events = events ≡ v1_events (lines_of bytes)

-- the events that the file tells, all of them, in order
abbrev pub IsOldFile : List ℕ → List Event → Type 0
IsOldFile bytes events = AreEventsBy (is_stream bytes) bytes events

-- these ids fail in the rows of the events, in the order of their bytes, each once
abbrev pub AreFailingIn : List ℕ → List (List ℕ) → Type 0
AreFailingIn bytes ids = (events : List Event) × IsOldFile bytes events × (ids ≡ failing_of (rows_of events))

-- ---- damage

-- the event is one of a test: it has an id
abbrev pub has_id : Event → Bool
has_id e = is_some e.id

-- the event is none of a test, as output that stands beside them
abbrev pub lacks_id : Event → Bool
lacks_id e = not (has_id e)

-- Something else than a part stands among the parts of a test: a line there, or a piece of one, gives an event without id.
pub record HasForeignPart (inputs : List Input) : Type 0 where
  pub front : List Input
  pub input : Input
  pub rest : List Input
  pub is : inputs ≡ front ++ input ∷ rest
  pub among : IsAmongParts (state_behind start front)
  pub foreign : list_any lacks_id (events_given_behind front input) ≡ true

-- The parts of an outcome line are not followed by a line `]`: something else stands among them, or the file ends there.
abbrev pub HasOpenParts : List Input → Type 0
HasOpenParts inputs = HasForeignPart inputs ⊎ IsAmongParts (state_behind start inputs)

-- the lines of the file, and the pieces of those that are too long
abbrev pub inputs_in : List ℕ → List Input
inputs_in bytes = flat_map inputs_of (lines_of bytes)

-- lines of version 1, with parts that are not closed
pub record IsCutOff (bytes : List ℕ) : Type 0 where
  pub lines : is_stream bytes ≡ false
  pub open_parts : HasOpenParts (inputs_in bytes)

-- the file has bytes, and none of its events is one of a test
pub record TellsNoTest (bytes : List ℕ) : Type 0 where
  pub some : 0 < length bytes
  pub events : List Event
  pub told : IsOldFile bytes events
  pub none : list_any has_id events ≡ false

-- the file is refused as a damaged run: parts of a test of version 1 are not closed in it, or it has bytes and tells of
-- no test
abbrev pub IsDamaged : List ℕ → Type 0
IsDamaged bytes = IsCutOff bytes ⊎ TellsNoTest bytes
