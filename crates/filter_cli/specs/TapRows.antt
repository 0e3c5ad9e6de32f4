-- The tests of a stream as lines of the Test Anything Protocol, as they complete (docs/FORMATS.md, "TAP").
use Rattle.std.specs.Prelude.{ℕ, List, [], ◌++◌}
use Rattle.std.specs.List.{flat_map}
use Rattle.std.specs.Option.{option_to_list}
use Rattle.packet_codec.specs.declared.event.Event.{Event}
use Rattle.stream_reader.specs.declared.note.Note.{Note}
use Rattle.stream_reader.specs.declared.note.Note.TheVariants as note
use Rattle.outcome_fold.specs.declared.row.Row.{Row}
use Rattle.outcome_fold.specs.Rows.{completed_row, completed_rows, open_rows}
use Rattle.outcome_fold.specs.Answers.{status_of}
use Rattle.tap_bridge.specs.Texts.{tap_text_at, tap_text_behind, plan_line, lines_in}
use Rattle.filter_cli.specs.Plan.{Plan}
use Rattle.filter_cli.specs.Events.{events_among}

-- the rows of all tests, those that are left open behind the others
abbrev pub tap_rows : List Event → List Row
tap_rows events = completed_rows events ++ open_rows events

-- the line of the test that the event completes; foreign bytes are dropped
abbrev pub tap_line : List Event → Note → List ℕ
tap_line seen (note.Foreign bytes) = []
tap_line seen (note.Event event) = flat_map (tap_text_at (completed_rows seen)) (option_to_list (completed_row seen event))

-- at the end the lines of the tests that are left open, by route and id, and the plan; 1 where a test failed
abbrev pub tap_plan : Plan
tap_plan = record {
  gives = λ before note. tap_line (events_among before) note;
  at_end = λ notes. tap_text_behind (completed_rows (events_among notes)) (open_rows (events_among notes)) ++ plan_line (lines_in (tap_rows (events_among notes)));
  status = λ notes. status_of (tap_rows (events_among notes));
}
