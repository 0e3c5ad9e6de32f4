-- Events by the lanes that their routes name, and the lists of several lanes merged into one (docs/FORMATS.md, "Routes
-- under a lane").
use Rattle.std.specs.Prelude.{◌≡◌, ℕ, ◌<◌, Bool, true, false, not, Option, Some, None, IfSome, List, [], length, slice_index_or, nat_eq}
use Rattle.std.specs.List.{All, filter, flat_map, take_while}
use Rattle.std.specs.Cmp.Lexicographic.{pointwise}
use Rattle.std.specs.Fmt.{decimal}
use Rattle.packet_codec.specs.declared.event.Event.{Event}

-- a route up to its first slash
abbrev pub lane_name : List ℕ → List ℕ
lane_name route = take_while (λ byte. not (nat_eq byte 47)) route

-- Up to its first slash the route spells the lane's number. What has no route is in no lane.
abbrev pub is_in_lane : (lane : ℕ) → Option (List ℕ) → Bool
is_in_lane lane None = false
is_in_lane lane (Some route) = pointwise nat_eq (lane_name route) (decimal lane)

-- the event came from this lane, as its route says
abbrev pub is_of_lane : (lane : ℕ) → Event → Bool
is_of_lane lane e = is_in_lane lane e.route

-- the lane's events, in their order
abbrev pub of_lane : (lane : ℕ) → List Event → List Event
of_lane lane events = filter (is_of_lane lane) events

-- each of the events is of the lane
abbrev pub AreOfLane : (lane : ℕ) → List Event → Type 0
AreOfLane lane events = All (λ e. is_of_lane lane e ≡ true) events

-- the event is of one of the first lanes, so many
abbrev pub IsOfLaneBelow : (count : ℕ) → Event → Type 0
IsOfLaneBelow count e = (lane : ℕ) × (lane < count) × (is_of_lane lane e ≡ true)

-- the list of the lane, where there is one for each of the first lanes
abbrev pub list_of : (lists : List (List Event)) → (lane : ℕ) → List Event
list_of lists lane = slice_index_or lists lane []

-- the lists one after another
abbrev pub joined : {A : Type 0} → List (List A) → List A
joined lists = flat_map (λ list. list) lists

-- The events are those of the lists, of each lane all of them, once and in order, and no others. Nothing is said of the
-- order of events of two lanes.
pub record IsMerge (events : List Event) (lists : List (List Event)) : Type 0 where
  pub each : (lane : ℕ) → lane < length lists → of_lane lane events ≡ list_of lists lane
  pub of_lanes : All (IsOfLaneBelow (length lists)) events

-- The same where some of the lists are told and others are not: nothing is said of a lane whose list is not told, but that
-- its events are of one of the lanes.
pub record IsMergeOfTold (events : List Event) (lists : List (Option (List Event))) : Type 0 where
  pub each : (lane : ℕ) → lane < length lists → IfSome (slice_index_or lists lane None) (λ list. of_lane lane events ≡ list)
  pub of_lanes : All (IsOfLaneBelow (length lists)) events
