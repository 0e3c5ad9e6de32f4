-- The rows of a list of events (docs/FORMATS.md, "The fold").
use Rattle.std.specs.Prelude.{ℕ, Bool, true, false, Option, Some, None, List, [], ◌∷◌, ◌++◌, map, if◌then◌else◌}
use Rattle.std.specs.List.{filter, filter_map, flat_map}
use Rattle.std.specs.FinMap as fin
use Rattle.std.specs.Option.{option_map, option_to_list}
use Rattle.std.specs.Ordering.{eq_by_cmp}
use Rattle.packet_codec.specs.declared.event.Event.{Event}
use Rattle.outcome_fold.specs.declared.row.Ended.{Ended}
use Rattle.outcome_fold.specs.declared.row.Ended.TheVariants as ended
use Rattle.outcome_fold.specs.declared.test_key.TestKey.{TestKey}
use Rattle.outcome_fold.specs.declared.row.Row.{Row}
use Rattle.outcome_fold.specs.Order.{route_cmp, test_cmp, table}
use Rattle.outcome_fold.specs.Parts.{test_of, events_of_test, ended_by, last_part, instant, start_of, elapsed, tags_of, reason_of, first_text_line}
use Rattle.outcome_fold.specs.Files.{text_of}

-- a test that failed, passed where it was to fail, or was left open
abbrev pub is_failure : Ended → Bool
is_failure ended.Exists = false
is_failure ended.Success = false
is_failure ended.UxSuccess = true
is_failure ended.Skip = false
is_failure ended.Fail = true
is_failure ended.XFail = false
is_failure ended.Open = true

-- a test that was skipped
abbrev pub is_skip : Ended → Bool
is_skip ended.Exists = false
is_skip ended.Success = false
is_skip ended.UxSuccess = false
is_skip ended.Skip = true
is_skip ended.Fail = false
is_skip ended.XFail = false
is_skip ended.Open = false

-- the row of a part of the test's events
abbrev pub row_of : TestKey → Ended → Option ℕ → List Event → Row
row_of test how nanos part = record {
  id = test.id;
  route = test.route;
  ended = how;
  tags = tags_of part;
  nanos = nanos;
  text = if is_failure how then text_of part else [];
  reason = if is_skip how then first_text_line (reason_of part) else [];
}

-- the part of the test that the event completes, where these events came before it
abbrev pub part_with : TestKey → List Event → Event → List Event
part_with test seen e = last_part (events_of_test test seen) ++ e ∷ []

-- The row of the part that an event completes, where it speaks of this test and ends it so, and these events came before
-- it. An event that speaks of no test, or ends none, gives no row.
abbrev pub row_completing : Option TestKey → Option Ended → List Event → Event → Option Row
row_completing None how seen e = None
row_completing (Some test) None seen e = None
row_completing (Some test) (Some how) seen e =
    let part = part_with test seen e in
    Some (row_of test how (elapsed (start_of part) (option_map instant e.stamp)) part)

-- the row of the part that the event completes, where these events came before it
abbrev pub completed_row : List Event → Event → Option Row
completed_row seen e = row_completing (test_of e) (ended_by e.status) seen e

-- the rows of the parts that the later events complete, in the order of these, where the first events came before them
abbrev pub completed_behind : List Event → List Event → List Row
completed_behind seen [] = []
completed_behind seen (e ∷ es) = option_to_list (completed_row seen e) ++ completed_behind (seen ++ e ∷ []) es

-- the rows of the parts that are completed, in the order of their completing events
abbrev pub completed_rows : List Event → List Row
completed_rows es = completed_behind [] es

-- at least one event
abbrev pub has_events : List Event → Bool
has_events [] = false
has_events (e ∷ es) = true

-- the test's last part has an event, and none that completes it
abbrev pub is_open : List Event → TestKey → Bool
is_open es test = has_events (last_part (events_of_test test es))

-- the tests whose last part is not completed
abbrev pub open_tests : List Event → List TestKey
open_tests es = filter (is_open es) (filter_map test_of es)

-- a row for each test whose last part is not completed, by route and id
abbrev pub open_rows : List Event → List Row
open_rows es = fin.values (table {R = test_cmp} (λ test. row_of test ended.Open None (last_part (events_of_test test es))) (open_tests es))

-- the row has this route, or none where this is none
abbrev pub is_under : Option (List ℕ) → Row → Bool
is_under route row = eq_by_cmp route_cmp route row.route

-- route by route, the rows of each in their order
abbrev pub by_route : List Row → List Row
by_route rows = flat_map (λ group. group) (fin.values (table {R = route_cmp} (λ route. filter (is_under route) rows) (map (λ row. row.route) rows)))

-- by route, and in a route first the completed ones in the order of their completing events, then the open ones by id
abbrev pub rows_of : List Event → List Row
rows_of es = by_route (completed_rows es ++ open_rows es)

-- the row is of a part of this test
abbrev pub is_row_of : TestKey → Row → Bool
is_row_of test row = eq_by_cmp test_cmp test (record { route = row.route; id = row.id })
