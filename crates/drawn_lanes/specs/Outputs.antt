-- What workers print whose tests are drawn (docs/FORMATS.md, "Generated outputs").
use Rattle.std.specs.Prelude.{ℕ, ◌+◌, ◌*◌, ◌%◌, ◌<◌, ◌^◌, ◌==◌, if◌then◌else◌, pos, Some, None, true, false, List, [], ◌∷◌, ◌++◌, map, codes}
use Rattle.std.specs.Fmt.{decimal}
use Rattle.std.specs.List.{flat_map, range_with_len}
use Rattle.std.proofs.Common.{lit<}
use Rattle.std.proofs.Math.Nat.{le_of_lt, le_refl, lt_of_le_of_lt}
use Rattle.std.proofs.lemmas.Nat.{mod_below, mul-le}
use Rattle.edge_io.specs.Children.{Output}
use Rattle.edge_io.specs.declared.child.Finish.TheVariants.{Exit}
use Rattle.packet_codec.specs.Canonical.{canonical, IsEvent, Fits}
use Rattle.packet_codec.specs.Routing.{under}
use Rattle.packet_codec.specs.declared.event.Event.{Event}
use Rattle.packet_codec.specs.declared.stamp.Stamp.{Stamp}
use Rattle.packet_codec.specs.declared.status.Status.{Status}
use Rattle.packet_codec.specs.declared.status.Status.TheVariants.{InProgress, Success, Skip, Fail}
use Rattle.drawn_lanes.specs.Draws.{seed_state, state_after, drawn}

-- ---- one test

-- the id of a test of a lane, each by its number
abbrev pub test_id : (lane test : ℕ) → List ℕ
test_id lane test = codes "lane." ++ decimal lane ++ codes ".test." ++ decimal test

-- how the test ends for which this number was drawn
abbrev pub drawn_status : (number : ℕ) → Status
drawn_status number =
    if number % 7 == 0 then Fail
    else (if number % 7 == 1 then Skip
    else Success)

-- how many nanoseconds it takes: so many thousandths of a second, less than a second
abbrev pub drawn_nanos : (number : ℕ) → ℕ
drawn_nanos number = number % 1000 * 1000000

-- a stamp has room for them
pub drawn_nanos_fit : (number : ℕ) → drawn_nanos number < 2 ^ 30
drawn_nanos_fit number = lt_of_le_of_lt (mul-le (number % 1000) 1000000 1000 1000000 (le_of_lt (mod_below number 1000 (lit< tt))) (le_refl 1000000)) (lit< tt)

-- and for none
pub none_fit : 0 < 2 ^ 30
none_fit = lit< tt

-- the first second of each lane's tests, in UTC since 1970
abbrev pub first_second : ℕ
first_second = 1500000000

-- so many nanoseconds into the second of the test of this number
abbrev pub drawn_stamp : (test nanos : ℕ) → nanos < 2 ^ 30 → Stamp
drawn_stamp test nanos fit = record { seconds = first_second + test; nanos = nanos; nanos_fit = fit }

-- an event of a test, at that time
abbrev pub drawn_event : (lane test : ℕ) → Status → (nanos : ℕ) → nanos < 2 ^ 30 → Event
drawn_event lane test status nanos fit = record {
  stamp = Some (drawn_stamp test nanos fit);
  id = Some (test_id lane test);
  tags = None;
  runnable = true;
  status = status;
  mime = None;
  file = None;
  eof = false;
  route = None;
}

-- a test begins with its second, and ends as the number that is drawn for it says
abbrev pub test_events : (lane test number : ℕ) → List Event
test_events lane test number =
    drawn_event lane test InProgress 0 none_fit
    ∷ drawn_event lane test (drawn_status number) (drawn_nanos number) (drawn_nanos_fit number)
    ∷ []

-- ---- one lane

-- the events of so many tests of a lane, before whose draws this was the state
abbrev pub lane_events : (lane tests state : ℕ) → List Event
lane_events lane tests state = flat_map (λ test. test_events lane test (drawn test state)) (range_with_len 0 tests)

-- ---- all lanes

-- The draws of a lane come behind those of the lanes before it: one for each test, in the order of the tests.
abbrev pub lane_state : (seed tests lane : ℕ) → ℕ
lane_state seed tests lane = state_after (lane * tests) (seed_state seed)

-- the events of a lane, so many of whose tests there are
abbrev pub drawn_events : (seed tests lane : ℕ) → List Event
drawn_events seed tests lane = lane_events lane tests (lane_state seed tests lane)

-- its output as packets, in their shortest form; it ends with 0
abbrev pub drawn_output : (seed tests lane : ℕ) → Output
drawn_output seed tests lane = record { bytes = flat_map canonical (drawn_events seed tests lane); finish = Exit (pos 0) }

-- the outputs of so many lanes
abbrev pub outputs_of : (seed lanes tests : ℕ) → List Output
outputs_of seed lanes tests = map (drawn_output seed tests) (range_with_len 0 lanes)

-- ---- packets

-- the event has a packet, and so it has under the lane
pub record HasLanePacket (lane : ℕ) (event : Event) : Type 0 where
  pub is_event : IsEvent event
  pub fits : Fits event
  pub fits_under : Fits (under lane event)
