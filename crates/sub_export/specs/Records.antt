-- The records of tests (docs/FORMATS.md, "Records of tests").
use Rattle.std.specs.Prelude.{ℕ, ◌-◌, Bool, Option, Some, None, List, [], ◌∷◌, ◌++◌, length, slice_get, codes, if◌then◌else◌}
use Rattle.std.specs.List.{filter_map, flat_map}
use Rattle.std.specs.Option.{option_map, unwrap_or}
use Rattle.std.specs.FinMap as fin
use Rattle.csv.specs.Writing.{default_writer, row_text}
use Rattle.packet_codec.specs.declared.event.Event.{Event}
use Rattle.outcome_fold.specs.declared.row.Ended.{Ended}
use Rattle.outcome_fold.specs.declared.row.Ended.TheVariants as ended
use Rattle.outcome_fold.specs.declared.row.Row.{Row}
use Rattle.outcome_fold.specs.declared.test_key.TestKey.{TestKey}
use Rattle.outcome_fold.specs.Order.{test_cmp, table}
use Rattle.outcome_fold.specs.Parts.{test_of, events_of_test, ended_by, has_end_status, last_part, instant, start_of}
use Rattle.outcome_fold.specs.Rows.{completed_row, open_tests, part_with, row_of}
use Rattle.instants.specs.Instants.{instant_text}

-- ---- one record

-- the names of the columns
abbrev pub head_fields : List (List ℕ)
head_fields = codes "test" ∷ codes "status" ∷ codes "start_time" ∷ codes "stop_time" ∷ []

-- A test that is only known to exist has no record.
abbrev pub status_word : Ended → Option (List ℕ)
status_word ended.Exists = None
status_word ended.Success = Some (codes "success")
status_word ended.UxSuccess = Some (codes "uxsuccess")
status_word ended.Skip = Some (codes "skip")
status_word ended.Fail = Some (codes "fail")
status_word ended.XFail = Some (codes "xfail")
status_word ended.Open = Some (codes "inprogress")

-- an instant in UTC, `YYYY-MM-DD HH:MM:SS.ffffff+00:00`; nothing where there is none
abbrev pub time_text : Option ℕ → List ℕ
time_text None = []
time_text (Some nanos) = instant_text nanos ++ codes "+00:00"

-- the last of the events, where there is one
abbrev pub last_of_part : List Event → Option Event
last_of_part part = slice_get part (length part - 1)

-- how the part ends: as its last event completes it, or open
abbrev pub end_by : Option Event → Ended
end_by None = ended.Open
end_by (Some e) = unwrap_or (ended_by e.status) ended.Open

-- the instant of the completing event, where there is one
abbrev pub stop_by : Option Event → Option ℕ
stop_by None = None
stop_by (Some e) = if has_end_status e then option_map instant e.stamp else None

-- the id that the part's events have
abbrev pub id_of : List Event → Option (List ℕ)
id_of [] = None
id_of (e ∷ es) = e.id

-- the fields of a record, where the test has an id and its end a word
abbrev pub record_with : (id word : Option (List ℕ)) → (start stop : Option ℕ) → Option (List (List ℕ))
record_with None word start stop = None
record_with (Some id) None start stop = None
record_with (Some id) (Some word) start stop = Some (id ∷ word ∷ time_text start ∷ time_text stop ∷ [])

-- The record of a part of a test's events. There is none where the test is only known to exist, and of events that
-- speak of no test.
abbrev pub record_of : List Event → Option (List (List ℕ))
record_of part = record_with (id_of part) (status_word (end_by (last_of_part part))) (start_of part) (stop_by (last_of_part part))

-- a record as the default writer of comma-separated records writes it, where there is one
abbrev pub row_if : Option (List (List ℕ)) → List ℕ
row_if None = []
row_if (Some fields) = row_text default_writer fields

-- the line of a part, and nothing where it has no record
abbrev pub csv_row_of : List Event → List ℕ
csv_row_of part = row_if (record_of part)

-- the line with the names of the columns
abbrev pub csv_head_text : List ℕ
csv_head_text = row_text default_writer head_fields

-- ---- all records

-- the part that the event completes, where these events came before it and the part's row is kept
abbrev pub kept_part_with : (Row → Bool) → Option TestKey → Option Row → List Event → Event → List (List Event)
kept_part_with kept None row seen e = []
kept_part_with kept (Some test) None seen e = []
kept_part_with kept (Some test) (Some row) seen e = if kept row then part_with test seen e ∷ [] else []

-- the part that this event completes, where it is kept and these events came before it
abbrev pub kept_part_at : (Row → Bool) → List Event → Event → List (List Event)
kept_part_at kept seen e = kept_part_with kept (test_of e) (completed_row seen e) seen e

-- the parts that some events complete and that are kept, where others came before them
abbrev pub kept_parts_behind : (Row → Bool) → List Event → List Event → List (List Event)
kept_parts_behind kept seen [] = []
kept_parts_behind kept seen (e ∷ es) = kept_part_at kept seen e ++ kept_parts_behind kept (seen ++ e ∷ []) es

-- the parts that are completed and kept, in the order of their completing events
abbrev pub kept_parts_so_far : (Row → Bool) → List Event → List (List Event)
kept_parts_so_far kept es = kept_parts_behind kept [] es

-- the test's last part, where it is kept as a test that was left open, else no event
abbrev pub kept_open_part : (Row → Bool) → List Event → TestKey → List Event
kept_open_part kept es test =
    let part = last_part (events_of_test test es) in
    if kept (row_of test ended.Open None part) then part else []

-- the parts of the open tests, by route and id, without an event where they are not kept
abbrev pub kept_open_parts : (Row → Bool) → List Event → List (List Event)
kept_open_parts kept es = fin.values (table {R = test_cmp} (kept_open_part kept es) (open_tests es))

-- all parts that are kept: those that were completed, and then the open ones
abbrev pub kept_parts : (Row → Bool) → List Event → List (List Event)
kept_parts kept es = kept_parts_so_far kept es ++ kept_open_parts kept es

-- the records below the head
abbrev pub csv_records : (Row → Bool) → List Event → List (List (List ℕ))
csv_records kept es = filter_map record_of (kept_parts kept es)

-- all that is written of a stream of these events
abbrev pub csv_text : (Row → Bool) → List Event → List ℕ
csv_text kept es = csv_head_text ++ flat_map csv_row_of (kept_parts kept es)
