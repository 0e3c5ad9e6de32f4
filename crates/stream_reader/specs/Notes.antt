-- The notes of a stream, and its events (docs/FORMATS.md, "Streams").
use Rattle.std.specs.Prelude.{◌≡◌, ℕ, ◌+◌, ◌<◌, ◌≤◌, true, false, Some, None, List, [], ◌∷◌, ◌++◌, length, map, nat_lt, if◌then◌else◌, codes}
use Rattle.packet_codec.specs.declared.event.Event.{Event}
use Rattle.packet_codec.specs.declared.status.Status.TheVariants.{Unset}
use Rattle.stream_reader.specs.declared.note.Note.{Note}
use Rattle.stream_reader.specs.declared.note.Note.TheVariants as note
use Rattle.stream_reader.specs.Cut.{Piece, packet, foreign, IsCut, IsOpenCut}

-- the most bytes of one foreign note
abbrev pub longest_foreign : ℕ
longest_foreign = 65536

-- a note of foreign bytes, where there are any
abbrev pub foreign_note : List ℕ → List Note
foreign_note [] = []
foreign_note (byte ∷ run) = note.Foreign (byte ∷ run) ∷ []

-- The notes of a cut, where `run` is what stands of the foreign note before it. A run of foreign bytes goes on to the
-- next packet, and is cut every 65,536 bytes from its front. `at_end` says what is made of a run that the end leaves.
abbrev pub notes_behind : (at_end : List ℕ → List Note) → List Piece → (run : List ℕ) → List Note
notes_behind at_end [] run = at_end run
notes_behind at_end (packet event ∷ pieces) run = foreign_note run ++ note.Event event ∷ notes_behind at_end pieces []
notes_behind at_end (foreign byte ∷ pieces) run =
    if nat_lt (length run + 1) longest_foreign then notes_behind at_end pieces (run ++ byte ∷ [])
    else note.Foreign (run ++ byte ∷ []) ∷ notes_behind at_end pieces []

-- the notes of a whole stream
abbrev pub notes_of : List Piece → List Note
notes_of pieces = notes_behind foreign_note pieces []

-- the notes of its first bytes: a last run gives its full notes, and its rest is still open
abbrev pub decided_of : List Piece → List Note
decided_of pieces = notes_behind (λ run. []) pieces []

-- the notes of a whole stream
pub record HasNotes (bytes : List ℕ) (notes : List Note) : Type 0 where
  pub pieces : List Piece
  pub cut : IsCut bytes pieces
  pub made : notes ≡ notes_of pieces

-- The notes that the first bytes of a stream decide: those up to the first place where more bytes are asked for. Each of
-- them stands, whatever follows.
pub record HasDecided (bytes : List ℕ) (notes : List Note) : Type 0 where
  pub pieces : List Piece
  pub cut : IsOpenCut bytes pieces
  pub made : notes ≡ decided_of pieces

-- an event with a piece of the file `stdout`, and nothing else
abbrev pub stdout_event : List ℕ → Event
stdout_event bytes = record {
  stamp = None;
  id = None;
  tags = None;
  runnable = true;
  status = Unset;
  mime = None;
  file = Some (record { name = codes "stdout"; bytes = bytes });
  eof = false;
  route = None;
}

-- foreign bytes as an event
abbrev pub event_of : Note → Event
event_of (note.Event event) = event
event_of (note.Foreign bytes) = stdout_event bytes

-- the events of the notes, foreign bytes among them as pieces of a file
abbrev pub events_of : List Note → List Event
events_of notes = map event_of notes

-- the events of a whole stream
abbrev pub HasEvents : List ℕ → List Event → Type 0
HasEvents bytes events = (notes : List Note) × HasNotes bytes notes × (events ≡ events_of notes)

-- the first of the notes is of foreign bytes
abbrev pub BeginsForeign : List Note → Type 0
BeginsForeign [] = ⊥
BeginsForeign (note.Event event ∷ notes) = ⊥
BeginsForeign (note.Foreign run ∷ notes) = Unit {0}

-- Each foreign note has bytes, 65,536 at most, and as many where a further foreign note follows it.
abbrev pub AreFullRuns : List Note → Type 0
AreFullRuns [] = Unit {0}
AreFullRuns (note.Event event ∷ notes) = AreFullRuns notes
AreFullRuns (note.Foreign run ∷ notes) = (0 < length run) × (length run ≤ longest_foreign) × (BeginsForeign notes → length run ≡ longest_foreign) × AreFullRuns notes
