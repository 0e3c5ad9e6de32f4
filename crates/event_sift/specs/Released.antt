-- The events that a sift releases (docs/FORMATS.md, "subunit-filter").
use Rattle.std.specs.Prelude.{Bool, Option, None, Some, List, [], ◌∷◌, ◌++◌, if◌then◌else◌}
use Rattle.std.specs.FinMap as fin
use Rattle.std.specs.List.{flat_map}
use Rattle.std.specs.Option.{option_map}
use Rattle.packet_codec.specs.declared.event.Event.{Event}
use Rattle.outcome_fold.specs.declared.row.Ended.{Ended}
use Rattle.outcome_fold.specs.declared.row.Ended.TheVariants as ended
use Rattle.outcome_fold.specs.declared.row.Row.{Row}
use Rattle.outcome_fold.specs.declared.test_key.TestKey.{TestKey}
use Rattle.outcome_fold.specs.Order.{test_cmp, table}
use Rattle.outcome_fold.specs.Parts.{test_of, events_of_test, last_part, instant, start_of, elapsed}
use Rattle.outcome_fold.specs.Rows.{completed_row, open_tests, part_with, row_of}

-- the events of a part, where its row is kept
abbrev pub if_kept : (Row → Bool) → Row → List Event → List Event
if_kept kept row part = if kept row then part else []

-- the row of the part that the event of the test completes, which ended so, where these events came before it
abbrev pub completed_part_row : TestKey → Ended → List Event → Event → Row
completed_part_row test how seen e = row_of test how (elapsed (start_of (part_with test seen e)) (option_map instant e.stamp)) (part_with test seen e)

-- The event itself where it speaks of no test. Where it completes one, all events of the part, in order, if the part's
-- row is kept. Else none.
abbrev pub released_with : (Row → Bool) → Option TestKey → Option Row → List Event → Event → List Event
released_with kept None row seen e = e ∷ []
released_with kept (Some test) None seen e = []
released_with kept (Some test) (Some row) seen e = if_kept kept row (part_with test seen e)

-- what is released at an event, where these events came before it
abbrev pub released : (Row → Bool) → List Event → Event → List Event
released kept seen e = released_with kept (test_of e) (completed_row seen e) seen e

-- what some events release, one after another, where others came before them
abbrev pub released_behind : (Row → Bool) → List Event → List Event → List Event
released_behind kept seen [] = []
released_behind kept seen (e ∷ es) = released kept seen e ++ released_behind kept (seen ++ e ∷ []) es

-- what is released while these events come
abbrev pub released_by : (Row → Bool) → List Event → List Event
released_by kept es = released_behind kept [] es

-- the events of the test's last part
abbrev pub part_at : List Event → TestKey → List Event
part_at es test = last_part (events_of_test test es)

-- the events of the test's last part, where it is kept as a test that was left open
abbrev pub kept_open : (Row → Bool) → List Event → TestKey → List Event
kept_open kept es test = if_kept kept (row_of test ended.Open None (part_at es test)) (part_at es test)

-- the events of the open tests, by route and id, of each test that is not kept none
abbrev pub parts_at_end : (Row → Bool) → List Event → List (List Event)
parts_at_end kept es = fin.values (table {R = test_cmp} (kept_open kept es) (open_tests es))

-- what is released at the end: the events of the open tests that are kept, by route and id
abbrev pub released_at_end : (Row → Bool) → List Event → List Event
released_at_end kept es = flat_map (λ part. part) (parts_at_end kept es)

-- all that is released of a stream of these events, in order
abbrev pub filtered : (Row → Bool) → List Event → List Event
filtered kept es = released_by kept es ++ released_at_end kept es
