-- The tests for which a cause is looked for, and their candidates (docs/FORMATS.md, "Causes").
use Rattle.std.specs.Prelude.{ℕ, ◌==◌, Bool, not, ◌&&◌, nat_eq, min, Option, Some, None, List, [], ◌∷◌, take, codes, if◌then◌else◌}
use Rattle.std.specs.Cmp.Lexicographic.{pointwise}
use Rattle.std.specs.List.{filter, filter_map, find, prefix_len, range_with_len}
use Rattle.std.specs.Option.{option_map}
use Rattle.outcome_fold.specs.declared.row.Row.{Row}
use Rattle.packet_codec.specs.Lanes.{is_in_lane, of_lane}
use Rattle.packet_codec.specs.declared.event.Event.{Event}
use Rattle.packet_codec.specs.declared.status.Status.{Status}
use Rattle.packet_codec.specs.declared.status.Status.TheVariants.{Unset, Exists, InProgress, Success, UxSuccess, Skip, Fail, XFail}
use Rattle.suite_plan.specs.Firsts.{firsts}
use Rattle.suite_causes.specs.Searching.{TestIds}
use Rattle.suite_causes.specs.declared.suspects.Suspect.{Suspect}

-- the id is the one under which the end of a worker is told
abbrev pub is_returncode : (id : List ℕ) → Bool
is_returncode id = pointwise nat_eq id (codes "process-returncode")

-- ---- what ran

-- the id, but for that one
abbrev pub unless_returncode : Option (List ℕ) → Option (List ℕ)
unless_returncode None = None
unless_returncode (Some id) = if is_returncode id then None else Some id

-- the id of a test that began to run, where an event of this status and this id tells of one
abbrev pub ran_where : Status → Option (List ℕ) → Option (List ℕ)
ran_where Exists id = None
ran_where Unset id = unless_returncode id
ran_where InProgress id = unless_returncode id
ran_where Success id = unless_returncode id
ran_where UxSuccess id = unless_returncode id
ran_where Skip id = unless_returncode id
ran_where Fail id = unless_returncode id
ran_where XFail id = unless_returncode id

-- the id of a test that began to run, where the event tells of one
abbrev pub ran_id : Event → Option (List ℕ)
ran_id event = ran_where event.status event.id

-- the ids of the lane's tests in the order in which they began to run, each once
abbrev pub ran_ids : (lane : ℕ) → List Event → TestIds
ran_ids lane events = firsts (filter_map ran_id (of_lane lane events))

-- the numbers of candidates have 32 bits
abbrev pub most_candidates : ℕ
most_candidates = 4294967295

-- how many of the ids stand before the test
abbrev pub count_before : (test : List ℕ) → TestIds → ℕ
count_before test ids = min most_candidates (prefix_len (λ id. not (pointwise nat_eq id test)) ids)

-- the candidates of a test on a lane: those that began to run before it
abbrev pub candidates_of : (test : List ℕ) → (lane : ℕ) → List Event → TestIds
candidates_of test lane events = take (count_before test (ran_ids lane events)) (ran_ids lane events)

-- ---- what failed

-- the lane that the route names, if it names one of 64
abbrev pub lane_in : Option (List ℕ) → Option ℕ
lane_in route = find (λ lane. is_in_lane lane route) (range_with_len 0 64)

-- the test of the row, on its lane; none of the row that tells of the end of a worker, nor of one that is of no lane
abbrev pub suspect_in : Row → Option Suspect
suspect_in row = if is_returncode row.id then None else option_map (λ lane. record { id = row.id; lane = lane }) (lane_in row.route)

-- the same test on the same lane
abbrev pub is_same_suspect : Suspect → Suspect → Bool
is_same_suspect one other = (one.lane == other.lane) && pointwise nat_eq one.id other.id

-- of repeats the first
abbrev pub first_suspects : List Suspect → List Suspect
first_suspects [] = []
first_suspects (one ∷ more) = one ∷ filter (λ other. not (is_same_suspect one other)) (first_suspects more)

-- the tests of these rows on their lanes, in order, of repeats the first
abbrev pub suspects_of : (failing : List Row) → List Suspect
suspects_of failing = first_suspects (filter_map suspect_in failing)
