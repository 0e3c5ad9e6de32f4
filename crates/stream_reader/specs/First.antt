-- The first note of what is held.
use Rattle.std.specs.Prelude.{◌≡◌, ℕ, ◌-◌, ◌<◌, ◌≤◌, Bool, Option, Some, None, List, [], ◌∷◌, length, take, drop}
use Rattle.sub_number.specs.Checksum.{crc32}
use Rattle.packet_codec.specs.Packet.{SpellsEvent}
use Rattle.packet_codec.specs.Header.{BeginsWithPacket}
use Rattle.packet_codec.specs.Shapes.{HeaderStands}
use Rattle.packet_codec.specs.declared.header.Header.{Header}
use Rattle.packet_codec.specs.declared.front.Front.{Front}
use Rattle.packet_codec.specs.declared.front.Front.TheVariants as front
use Rattle.stream_reader.specs.declared.note.Note.{Note}
use Rattle.stream_reader.specs.declared.note.Note.TheVariants as note
use Rattle.stream_reader.specs.declared.first_note.First.{First}
use Rattle.stream_reader.specs.declared.first_note.First.TheVariants.{Packet, Foreign, Nothing}
use Rattle.stream_reader.specs.declared.first_note.Made.{Made}
use Rattle.stream_reader.specs.declared.first_note.Made.TheVariants as made
use Rattle.stream_reader.specs.declared.first_note.Seen.{Seen}
use Rattle.stream_reader.specs.declared.first_note.Seen.TheVariants.{Candidate, Told}
use Rattle.stream_reader.specs.Run.{IsRun, IsForeign}
use Rattle.stream_reader.specs.Stream.{HasGiven, IsMadeOf, IsSpent}

-- the first note, and how many bytes at the front it is made of
pub record IsFirst (ended : Bool) (bytes : List ℕ) (first : Note) (size : ℕ) : Type 0 where
  pub some : 0 < size
  pub in_range : size ≤ length bytes
  pub made : IsMadeOf first (take size bytes)
  pub gives : HasGiven ended bytes (first ∷ []) (drop size bytes)

-- what was seen behind a run of foreign bytes: a packet, or why the run is no longer
abbrev pub front_behind : Option ℕ → Front
front_behind (Some size) = front.Packet size
front_behind None = front.No

-- what the first note is made of: a packet, a run of foreign bytes that no bytes to come make longer, or nothing yet
abbrev pub FirstIs : Bool → List ℕ → First → Type 0
FirstIs ended bytes (Packet size) = BeginsWithPacket bytes size
FirstIs ended bytes (Foreign size behind) = (0 < size) × IsRun ended bytes size (front_behind behind)
FirstIs ended bytes Nothing = IsSpent ended bytes

-- a header stands at the front, with as many bytes as it tells of, and a packet there would end with this checksum
pub record IsCandidate (bytes : List ℕ) (header : Header) (sum : ℕ) : Type 0 where
  pub stands : HeaderStands bytes header
  pub in_range : header.size ≤ length bytes
  pub sum_is : sum ≡ crc32 (take (header.size - 4) bytes)

-- a candidate, or what the first note is made of
abbrev pub SeenIs : Bool → List ℕ → Seen → Type 0
SeenIs ended bytes (Candidate header sum) = IsCandidate bytes header sum
SeenIs ended bytes (Told first) = FirstIs ended bytes first

-- the first byte stands there and is foreign
pub record IsForeignAtFront (ended : Bool) (bytes : List ℕ) : Type 0 where
  pub some : 0 < length bytes
  pub foreign : IsForeign ended bytes

-- the note that is made of it
abbrev pub IsMadeBy : List ℕ → First → Note → Type 0
IsMadeBy bytes (Packet size) (note.Event event) = SpellsEvent (take size bytes) event
IsMadeBy bytes (Packet size) (note.Foreign run) = ⊥
IsMadeBy bytes (Foreign size behind) (note.Event event) = ⊥
IsMadeBy bytes (Foreign size behind) (note.Foreign run) = run ≡ take size bytes
IsMadeBy bytes Nothing given = ⊥

-- how many bytes it takes
abbrev pub first_size : First → ℕ
first_size (Packet size) = size
first_size (Foreign size behind) = size
first_size Nothing = 0

-- what a note is made of, where its event may be made by now
abbrev pub first_of : Made → First
first_of (made.Event event size) = Packet size
first_of (made.Foreign size behind) = Foreign size behind
first_of made.Nothing = Nothing

-- the event is that of the packet
abbrev pub HasEvent : List ℕ → Made → Type 0
HasEvent bytes (made.Event event size) = SpellsEvent (take size bytes) event
HasEvent bytes (made.Foreign size behind) = Unit {0}
HasEvent bytes made.Nothing = Unit {0}
