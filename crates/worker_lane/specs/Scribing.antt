-- What a scribe has still to give, and what it has given of the bytes fed (docs/FORMATS.md, "What is recorded of a
-- stream").
use Rattle.std.specs.Prelude.{◌≡◌, ◌⊎◌, ℕ, ◌+◌, ◌<◌, Bool, true, false, List, [], ◌∷◌, ◌++◌, length}
use Rattle.std.specs.List.{flat_map}
use Rattle.packet_codec.specs.declared.event.Event.{Event}
use Rattle.packet_codec.specs.Canonical.{canonical}
use Rattle.packet_codec.specs.Grammar.{AreBytes}
use Rattle.stream_reader.specs.declared.note.Note.{Note}
use Rattle.stream_reader.specs.Notes.{HasDecided}
use Rattle.stream_reader.specs.Stream.{Held, HasGiven, GivesNote, IsSpent}
use Rattle.stream_end.specs.Character.{missing_after_note}
use Rattle.worker_lane.specs.Inside.{ends_inside, ends_inside_behind, inside_under, inside_events}
use Rattle.worker_lane.specs.Recorded.{recorded_note, recorded_events, recorded_packets, HasPacket}

-- The events that are to be given before the next note is taken, and the bytes fed of which no note was taken. In front
-- of these so many bytes are missing to a character. Behind all of that it may be still to be told that the stream has
-- ended inside a packet.
pub record Scribing : Type 0 where
  pub lane : ℕ
  pub waiting : List Event
  pub held : Held
  pub missing : ℕ
  pub inside : Bool

-- more bytes were fed
abbrev pub scribe_holding : Scribing → (bytes : List ℕ) → Scribing
scribe_holding scribe bytes = record { lane = scribe.lane; waiting = scribe.waiting; held = record { bytes = bytes; ended = false }; missing = scribe.missing; inside = scribe.inside }

-- the stream has ended behind what is held
abbrev pub finished : Scribing → Scribing
finished scribe = record { lane = scribe.lane; waiting = scribe.waiting; held = record { bytes = scribe.held.bytes; ended = true }; missing = scribe.missing; inside = ends_inside_behind scribe.missing scribe.held.bytes }

-- no event was waiting, and a note was taken, whose events are waiting now
pub record TakesNote (before after : Scribing) : Type 0 where
  pub none : before.waiting ≡ []
  pub note : Note
  pub given : GivesNote before.held note after.held
  pub ended : after.held.ended ≡ before.held.ended
  pub lane : after.lane ≡ before.lane
  pub missing : after.missing ≡ missing_after_note before.missing note
  pub inside : after.inside ≡ before.inside
  pub waiting : after.waiting ≡ recorded_note before.lane note

-- all else was given of a stream that has ended inside a packet, and the event that tells of it is waiting now
pub record TakesInside (before after : Scribing) : Type 0 where
  pub none : before.waiting ≡ []
  pub no_bytes : before.held.bytes ≡ []
  pub ended : before.held.ended ≡ true
  pub inside : before.inside ≡ true
  pub after_is : after ≡ record { lane = before.lane; waiting = inside_under before.lane ∷ []; held = before.held; missing = before.missing; inside = false }

-- What is to be given is as before: at most, the next note was taken, or it is to be told how the stream has ended.
abbrev pub IsAsBefore : Scribing → Scribing → Type 0
IsAsBefore before after = (after ≡ before) ⊎ (TakesNote before after ⊎ TakesInside before after)

-- the next event was given: the first one waiting, or where none was, the first one of the next note
pub record GivesEvent (before : Scribing) (event : Event) (after : Scribing) : Type 0 where
  pub waiting : Scribing
  pub ready : IsAsBefore before waiting
  pub first : waiting ≡ record { lane = after.lane; waiting = event ∷ after.waiting; held = after.held; missing = after.missing; inside = after.inside }

-- it is this one, which can be written as a packet, and its packet was appended to what was written before
pub record GivesThis (before : Scribing) (old : List ℕ) (event : Event) (after : Scribing) (new : List ℕ) : Type 0 where
  pub given : GivesEvent before event after
  pub new_is : new ≡ old ++ canonical event
  pub has_packet : HasPacket event

-- some event was given so
abbrev pub GivesOne : Scribing → List ℕ → Scribing → List ℕ → Type 0
GivesOne before old after new = (event : Event) × GivesThis before old event after new

-- it was given as its packet, behind what was written before
pub record GivesPacket (before : Scribing) (old : List ℕ) (after : Scribing) (new : List ℕ) : Type 0 where
  pub event : Event
  pub given : GivesEvent before event after
  pub new_is : new ≡ old ++ canonical event

-- no event is waiting, and the bytes fed so far decide no further note
abbrev pub HasNoNote : Scribing → Type 0
HasNoNote scribe = (scribe.waiting ≡ []) × IsSpent scribe.held.ended scribe.held.bytes

-- the bytes fed so far decide no further event
abbrev pub HasNone : Scribing → Type 0
HasNone scribe = HasNoNote scribe × (scribe.inside ≡ false)

-- no more events than this are still to be given of the bytes fed
abbrev pub most_left : Scribing → ℕ
most_left scribe = length scribe.held.bytes + length scribe.waiting + length (inside_events scribe.lane scribe.inside)

-- What was told so far of the end of the stream. Before the end that is nothing, and whether it ends inside a packet
-- hangs on what is held, and on the character in front of that. Behind it that is known, and is told behind all else.
abbrev pub HasTold : (ended : Bool) → (lane : ℕ) → (fed held : List ℕ) → (missing : ℕ) → (inside : Bool) → (told : List Event) → Type 0
HasTold false lane fed held missing inside told = (told ≡ []) × ((more : List ℕ) → AreBytes more → ends_inside (fed ++ more) ≡ ends_inside_behind missing (held ++ more))
HasTold true lane fed held missing inside told = (inside_events lane (ends_inside fed) ≡ told ++ inside_events lane inside) × ((told ≡ []) ⊎ (held ≡ []))

-- With these bytes fed, so many packets were given: those of the first of the events that are recorded of the notes
-- taken and of the end, and the others are waiting.
pub record Recording (fed : List ℕ) (scribe : Scribing) (written : List ℕ) : Type 0 where
  pub lane : scribe.lane < 64
  pub are_bytes : AreBytes fed
  pub are_held : AreBytes scribe.held.bytes
  pub notes : List Note
  pub taken : HasGiven scribe.held.ended fed notes scribe.held.bytes
  pub told : List Event
  pub telling : HasTold scribe.held.ended scribe.lane fed scribe.held.bytes scribe.missing scribe.inside told
  pub events : List Event
  pub parts : recorded_events scribe.lane notes ++ told ≡ events ++ scribe.waiting
  pub packets : written ≡ flat_map canonical events

-- some packets were given, in order
pub record GivesPackets (before : Scribing) (old : List ℕ) (after : Scribing) (new : List ℕ) : Type 0 where
  pub lane : after.lane ≡ before.lane
  pub ended : after.held.ended ≡ before.held.ended
  pub packets : List ℕ
  pub new_is : new ≡ old ++ packets
  pub recording : (fed written : List ℕ) → Recording fed before written → Recording fed after (written ++ packets)

-- these bytes are the packets of what the first bytes of a stream decide, whatever follows
pub record IsRecordedSoFar (lane : ℕ) (bytes written : List ℕ) : Type 0 where
  pub notes : List Note
  pub decided : HasDecided bytes notes
  pub packets : written ≡ recorded_packets lane notes
