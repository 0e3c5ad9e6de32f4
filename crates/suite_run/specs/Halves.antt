-- What the rows of a recorded stream say (docs/FORMATS.md, "What is recorded of a stream").
use Rattle.std.specs.Prelude.{◌≡◌, ℕ, true, List, ◌++◌, map}
use Rattle.std.specs.List.{All}
use Rattle.packet_codec.specs.Canonical.{Fits}
use Rattle.packet_codec.specs.Halves.{has_halves}
use Rattle.packet_codec.specs.Routing.{under}
use Rattle.packet_codec.specs.declared.event.Event.{Event}
use Rattle.worker_lane.specs.Endings.{ending_events}
use Rattle.worker_lane.specs.Inside.{ends_inside, inside_events}
use Rattle.worker_lane.specs.declared.lot.Ending.{Ending}

-- where the event does not fit under the lane, it may be cut in two
abbrev pub FitsOrIsCut : (lane : ℕ) → Event → Type 0
FitsOrIsCut lane e = (Fits (under lane e) → ⊥) → has_halves e ≡ true

-- each of the events fits under the lane, or may be cut in two
abbrev pub FitOrAreCut : (lane : ℕ) → List Event → Type 0
FitOrAreCut lane events = All (FitsOrIsCut lane) events

-- the events of the stream under the lane, of whatever size, and what is recorded of both ends: of that of the stream, where
-- it is inside a packet, and of that of the lane
abbrev pub whole_under : (lane : ℕ) → (bytes : List ℕ) → List Event → Ending → List Event
whole_under lane bytes events how = map (under lane) events ++ (inside_events lane (ends_inside bytes) ++ ending_events lane how)
