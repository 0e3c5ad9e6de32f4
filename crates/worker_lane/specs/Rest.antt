-- What a lane has still to give (docs/FORMATS.md, "What a lane gives").
use Rattle.std.specs.Prelude.{◌≡◌, ℕ, ◌<◌, ◌≤◌, ⊤, Bool, true, false, Option, IfSome, List, [], ◌∷◌, ◌++◌, length, map, All}
use Rattle.std.specs.Option.{option_map}
use Rattle.packet_codec.specs.declared.event.Event.{Event}
use Rattle.packet_codec.specs.Grammar.{AreBytes}
use Rattle.packet_codec.specs.Canonical.{canonical, IsEvent, Fits}
use Rattle.packet_codec.specs.Routing.{under}
use Rattle.edge_io.specs.Children.{Output}
use Rattle.stream_reader.specs.Room.{reader_room}
use Rattle.stream_reader.specs.declared.note.Note.{Note}
use Rattle.stream_reader.specs.Notes.{HasNotes}
use Rattle.stream_reader.proofs.ExistLemmas.{some_notes}
use Rattle.worker_lane.specs.Inside.{ends_inside, ends_inside_behind, inside_events}
use Rattle.worker_lane.specs.Recorded.{recorded_events}
use Rattle.worker_lane.specs.Scribing.{Scribing}
use Rattle.worker_lane.specs.Endings.{ending_of, ending_events, IsPacketOf}
use Rattle.worker_lane.specs.Lost.{named_ids, lost_ids, lost_events}
use Rattle.worker_lane.specs.declared.lane_stage.Stage.{Stage}
use Rattle.worker_lane.specs.declared.lane_stage.Stage.TheVariants.{Reading, Closing, Last, Over}
use Rattle.worker_lane.specs.declared.lot.Ending.{Ending}
use Rattle.worker_lane.specs.declared.lot.Ending.TheVariants.{Exit, Fault, NoMemory}
use Rattle.worker_lane.specs.declared.lot.Lot.{Lot}
use Rattle.worker_lane.specs.declared.lot.Lot.TheVariants.{Packet, End}

-- the notes of a stream, of which there is one list
pub notes_of_stream : List ℕ → List Note
notes_of_stream bytes = (some_notes bytes).0

-- they are the notes of the stream
pub notes_are : (bytes : List ℕ) → HasNotes bytes (notes_of_stream bytes)
unfolding notes_of_stream
notes_are bytes = (some_notes bytes).1

-- the events that are recorded of a whole stream
abbrev pub stream_events : (lane : ℕ) → (bytes : List ℕ) → List Event
stream_events lane bytes = recorded_events lane (notes_of_stream bytes) ++ inside_events lane (ends_inside bytes)

-- what is recorded behind these events: of those of the ids that none of them says more of, and then of the end
abbrev pub last_events : (lane : ℕ) → (ids : List (List ℕ)) → List Event → Ending → List Event
last_events lane ids events how = lost_events lane how (lost_ids ids events) ++ ending_events lane how

-- the lots of these events: each as its packet, then the packets of what is recorded behind them, and the end
abbrev pub lots_to_give : (lane : ℕ) → (ids : List (List ℕ)) → List Event → Ending → List Lot
lots_to_give lane ids events how = map Packet (map canonical (events ++ last_events lane ids events how)) ++ End how ∷ []

-- the lots of a whole output under a lane whose job names these ids
abbrev pub lots_asked : (lane : ℕ) → (ids : List (List ℕ)) → Output → List Lot
lots_asked lane ids output = lots_to_give lane (named_ids ids) (stream_events lane output.bytes) (ending_of output.finish)

-- the same of a job that names none
abbrev pub lots_for : (lane : ℕ) → Output → List Lot
lots_for lane output = lots_asked lane [] output

-- Whether it is still to be told that the stream ends inside a packet, where it ends behind these bytes. Of a stream that
-- has ended that is known.
abbrev pub inside_at : (ended inside : Bool) → (missing : ℕ) → (bytes : List ℕ) → Bool
inside_at true inside missing bytes = inside
inside_at false inside missing bytes = ends_inside_behind missing bytes

-- the events that a scribe has still to give where these bytes are fed to it, and then the stream ends
abbrev pub events_left : Scribing → (more : List ℕ) → List Event
events_left scribe more = scribe.waiting
    ++ (recorded_events scribe.lane (notes_of_stream (scribe.held.bytes ++ more))
    ++ inside_events scribe.lane (inside_at scribe.held.ended scribe.inside scribe.missing (scribe.held.bytes ++ more)))

-- The lots that are left. While the child is read they hang on what it tells, and after that on what the scribe holds.
abbrev pub lots_left : Scribing → (ids : List (List ℕ)) → Stage → Output → List Lot
lots_left scribe ids Reading output = lots_to_give scribe.lane ids (events_left scribe output.bytes) (ending_of output.finish)
lots_left scribe ids (Closing how) output = lots_to_give scribe.lane ids (events_left scribe []) how
lots_left scribe ids (Last how) output = End how ∷ []
lots_left scribe ids Over output = []

-- What is kept of a lane beside its child. The ids are those of its job that none of the events that were given says more
-- of. Whether a read of the child or the wait for it failed is the mark.
pub record Coursing : Type 0 where
  pub scribe : Scribing
  pub ids : List (List ℕ)
  pub stage : Stage
  pub failed : Bool

-- the lots that the lane has still to give, where its child has still this output
abbrev pub lots : Coursing → Output → List Lot
lots course = lots_left course.scribe course.ids course.stage

-- the course of a new lane whose job names these ids
abbrev pub new_course : (lane : ℕ) → (ids : List (List ℕ)) → Coursing
new_course lane ids = record { scribe = record { lane = lane; waiting = []; held = record { bytes = []; ended = false }; missing = 0; inside = false }; ids = named_ids ids; stage = Reading; failed = false }

-- a packet of the lane stood at the front of what is left, and was appended
pub record AppendsNext (before : Coursing) (old : List ℕ) (after : Coursing) (new : List ℕ) : Type 0 where
  pub packet : List ℕ
  pub appended : new ≡ old ++ packet
  pub under : IsPacketOf before.scribe.lane packet
  pub left : (output : Output) → AreBytes output.bytes → lots before output ≡ Packet packet ∷ lots after output

-- where it is told: these were given, and the others are left
abbrev pub GivesIfTold : {X : Type 0} → Option (List X) → List X → Option (List X) → Type 0
GivesIfTold before given after = before ≡ option_map (λ l. given ++ l) after

-- where it is told, nothing is left
abbrev pub IsOver : {X : Type 0} → Option (List X) → Type 0
IsOver left = IfSome left (λ l. l ≡ [])

-- the event is under the lane, and has a packet
pub record IsEventOf (lane : ℕ) (event : Event) : Type 0 where
  pub inner : Event
  pub event_is : event ≡ under lane inner
  pub is_event : IsEvent event
  pub fits : Fits event

-- a scribe of a lane, which holds bytes, not too many, and events that are under the lane
pub record IsSoundScribe (scribe : Scribing) : Type 0 where
  pub lane : scribe.lane < 64
  pub are_bytes : AreBytes scribe.held.bytes
  pub short : length scribe.held.bytes ≤ reader_room
  pub waiting : All (IsEventOf scribe.lane) scribe.waiting

-- a fault is marked, and want of memory never comes to this
abbrev pub IsMarked : Ending → Bool → Type 0
IsMarked (Exit status) failed = ⊤
IsMarked Fault failed = failed ≡ true
IsMarked NoMemory failed = ⊥

-- the lot is the last one
abbrev pub IsEnd : Lot → Type 0
IsEnd (Packet packet) = ⊥
IsEnd (End how) = ⊤

-- at the end of a lane the mark says whether a read or a wait failed
abbrev pub IsMarkedLot : Lot → Bool → Type 0
IsMarkedLot (Packet packet) failed = ⊤
IsMarkedLot (End how) failed = IsMarked how failed

-- what stands at each stage: whether the scribe's stream has ended, and whether a fault is marked
abbrev pub IsAtStage : Stage → (ended failed : Bool) → Type 0
IsAtStage Reading ended failed = ended ≡ false
IsAtStage (Closing how) ended failed = (ended ≡ true) × IsMarked how failed
IsAtStage (Last how) ended failed = IsMarked how failed
IsAtStage Over ended failed = ⊤
