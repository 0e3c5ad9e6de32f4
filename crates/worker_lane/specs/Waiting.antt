-- The events that a scribe has at hand, by the form in which it keeps them.
use Rattle.std.specs.Prelude.{◌≡◌, ℕ, ◌<◌, ◌≤◌, ⊤, true, List, [], ◌∷◌, ◌++◌, length, drop, map}
use Rattle.std.proofs.Common.{inl, inr, refl}
use Rattle.packet_codec.specs.declared.event.Event.{Event}
use Rattle.packet_codec.specs.Canonical.{Fits, canonical}
use Rattle.packet_codec.specs.Grammar.{AreBytes}
use Rattle.packet_codec.specs.Halves.{has_halves, second_half}
use Rattle.packet_codec.specs.Packet.{SpellsEvent}
use Rattle.packet_codec.specs.Routing.{under}
use Rattle.packet_codec.proofs.DecidedLemmas.{Decided}
use Rattle.packet_codec.proofs.SpelledLemmas.{read_packet}
use Rattle.stream_reader.specs.declared.first_note.First.{First}
use Rattle.stream_reader.specs.declared.note.Note.{Note}
use Rattle.stream_reader.specs.declared.note.Note.TheVariants as note
use Rattle.stream_reader.specs.First.{IsMadeBy}
use Rattle.worker_lane.specs.declared.waiting_note.Spelling.{Spelling}
use Rattle.worker_lane.specs.declared.waiting_note.Waiting.{Waiting}
use Rattle.worker_lane.specs.declared.waiting_note.Waiting.TheVariants as waiting
use Rattle.worker_lane.specs.Recorded.{pieces_of, stdout_under, longest_piece, recorded_note, HasPacket}

-- the pieces of the spelling that were not given yet
abbrev pub pieces_left : (lane : ℕ) → Spelling → List Event
pieces_left lane spelling = map (stdout_under lane) (pieces_of (drop spelling.given spelling.bytes.items))

-- the second half of the event that was found to be spelled, under the lane
abbrev pub half_found : (lane : ℕ) {bytes : List ℕ} → Decided ((event : Event) × SpellsEvent bytes event) → List Event
half_found lane (inl found) = under lane (second_half found.0) ∷ []
half_found lane (inr never) = []

-- the second half, under the lane, of the event that the bytes are a packet of
pub half_left : (lane : ℕ) (bytes : List ℕ) → List Event
half_left lane bytes = half_found lane (read_packet bytes)

-- what `half_left` is, as a law for proofs, which do not unfold it by themselves
pub half_left_is : (lane : ℕ) (bytes : List ℕ) → half_left lane bytes ≡ half_found lane (read_packet bytes)
unfolding half_left
half_left_is lane bytes = refl

-- the events that are still to be given of what is waiting
abbrev pub waiting_events : (lane : ℕ) → Waiting → List Event
waiting_events lane waiting.Nothing = []
waiting_events lane (waiting.Pieces spelling) = pieces_left lane spelling
waiting_events lane (waiting.SecondHalf bytes) = half_left lane bytes.items

-- the note can be encoded, or held in one packet
abbrev pub IsShortNote : Note → Type 0
IsShortNote (note.Event event) = Fits event
IsShortNote (note.Foreign bytes) = length bytes ≤ longest_piece

-- some of the bytes were not given yet
abbrev pub HasPiecesLeft : Spelling → Type 0
HasPiecesLeft spelling = spelling.given < length spelling.bytes.items

-- the bytes are a packet of an event that may be cut in two
pub record IsHalved (bytes : List ℕ) : Type 0 where
  pub are_bytes : AreBytes bytes
  pub event : Event
  pub spelled : SpellsEvent bytes event
  pub long : has_halves event ≡ true

-- there is an event, unless nothing is waiting
abbrev pub HasWaitingEvent : Waiting → Type 0
HasWaitingEvent waiting.Nothing = ⊤
HasWaitingEvent (waiting.Pieces spelling) = HasPiecesLeft spelling
HasWaitingEvent (waiting.SecondHalf bytes) = IsHalved bytes.items

-- this event is the first; it was appended as its packet, and the others are waiting
pub record PutsFirst (event : Event) (events : List Event) (old : List ℕ) (left : List Event) (new : List ℕ) : Type 0 where
  pub events_are : events ≡ event ∷ left
  pub new_is : new ≡ old ++ canonical event
  pub has_packet : HasPacket event

-- some event is the first, and so on
abbrev pub PutsOne : (events : List Event) → List ℕ → (left : List Event) → List ℕ → Type 0
PutsOne events old left new = (event : Event) × PutsFirst event events old left new

-- so it is of the events that are recorded of the note that is first
pub record PutsNote (lane : ℕ) (bytes : List ℕ) (first : First) (old : List ℕ) (left : List Event) (new : List ℕ) : Type 0 where
  pub note : Note
  pub made : IsMadeBy bytes first note
  pub puts : PutsOne (recorded_note lane note) old left new
