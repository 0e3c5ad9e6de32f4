-- What a stream becomes when it is recorded under a lane (docs/FORMATS.md, "What is recorded of a stream").
use Rattle.std.specs.Prelude.{◌≡◌, ℕ, List, [], ◌∷◌, ◌++◌, map, nat_le, if◌then◌else◌}
use Rattle.std.specs.List.{flat_map}
use Rattle.packet_codec.specs.declared.event.Event.{Event}
use Rattle.packet_codec.specs.Canonical.{canonical, canonical_size, largest_packet, IsEvent, Fits}
use Rattle.packet_codec.specs.Halves.{has_halves, first_half, second_half}
pub use Rattle.packet_codec.specs.Pieces.{longest_piece, pieces_of}
use Rattle.packet_codec.specs.Routing.{under}
use Rattle.stream_reader.specs.declared.note.Note.{Note}
use Rattle.stream_reader.specs.declared.note.Note.TheVariants as note
use Rattle.stream_reader.specs.Notes.{HasNotes, stdout_event}
use Rattle.worker_lane.specs.Inside.{ends_inside, inside_events}

-- these bytes as a piece of the file `stdout`, under the lane
abbrev pub stdout_under : (lane : ℕ) → (bytes : List ℕ) → Event
stdout_under lane bytes = under lane (stdout_event bytes)

-- the event in two halves, each under the lane
abbrev pub in_halves : (lane : ℕ) → Event → List Event
in_halves lane event = under lane (first_half event) ∷ under lane (second_half event) ∷ []

-- the event's own shortest spelling, in pieces under the lane
abbrev pub in_pieces : (lane : ℕ) → Event → List Event
in_pieces lane event = map (stdout_under lane) (pieces_of (canonical event))

-- The event under the lane, where it fits. Where it does not, its halves, where its file may be cut in two, and else its
-- spelling in pieces.
abbrev pub recorded_event : (lane : ℕ) → Event → List Event
recorded_event lane event =
    if nat_le (canonical_size (under lane event)) largest_packet then under lane event ∷ []
    else (if has_halves event then in_halves lane event else in_pieces lane event)

-- the events that are recorded of a note
abbrev pub recorded_note : (lane : ℕ) → Note → List Event
recorded_note lane (note.Event event) = recorded_event lane event
recorded_note lane (note.Foreign bytes) = stdout_under lane bytes ∷ []

-- the events that are recorded of these notes
abbrev pub recorded_events : (lane : ℕ) → List Note → List Event
recorded_events lane notes = flat_map (recorded_note lane) notes

-- and their packets
abbrev pub recorded_packets : (lane : ℕ) → List Note → List ℕ
recorded_packets lane notes = flat_map canonical (recorded_events lane notes)

-- the event can be written as a packet
pub record HasPacket (event : Event) : Type 0 where
  pub is_event : IsEvent event
  pub fits : Fits event

-- the events that are recorded of a whole stream: those of its notes, and one more where it ends inside a packet
pub record HasRecorded (lane : ℕ) (bytes : List ℕ) (events : List Event) : Type 0 where
  pub notes : List Note
  pub are_notes : HasNotes bytes notes
  pub made : events ≡ recorded_events lane notes ++ inside_events lane (ends_inside bytes)

-- these bytes are the packets of those events
pub record IsRecorded (lane : ℕ) (bytes written : List ℕ) : Type 0 where
  pub events : List Event
  pub has : HasRecorded lane bytes events
  pub packets : written ≡ flat_map canonical events
