-- The lines of the tests of a stream as they complete, and their totals (docs/COMMANDS.md, "subunit-trace").
use Rattle.std.specs.Prelude.{ℕ, Bool, true, false, not, ◌||◌, Option, Some, None, List, [], ◌++◌, length, codes, nat_lt, if◌then◌else◌, ◌==◌}
use Rattle.std.specs.List.{fold}
use Rattle.std.specs.Option.{option_map, option_to_list}
use Rattle.std.specs.Str.{bytes_eq}
use Rattle.command_words.specs.Items.{Item, flag, valued, name, has_flag}
use Rattle.packet_codec.specs.declared.event.Event.{Event}
use Rattle.stream_reader.specs.declared.note.Note.{Note}
use Rattle.stream_reader.specs.declared.note.Note.TheVariants as note
use Rattle.outcome_fold.specs.declared.row.Counts.{Counts}
use Rattle.outcome_fold.specs.declared.row.Row.{Row}
use Rattle.outcome_fold.specs.Rows.{completed_row, open_rows}
use Rattle.live_text.specs.Live.{live_rows, live_end, rows_done}
use Rattle.live_text.specs.Totals.{sum_of, totals_text}
use Rattle.live_text.specs.declared.live.Live.{Live}
use Rattle.live_text.specs.declared.live.Live.TheVariants as live
use Rattle.filter_cli.specs.declared.live_trace.Trace.{Trace}
use Rattle.filter_cli.specs.Plan.{Plan}
use Rattle.filter_cli.specs.Events.{events_among}
use Rattle.filter_cli.specs.TapRows.{tap_rows}

-- Words.

-- the kind of lines that a word names
abbrev pub live_named : List ℕ → Option Live
live_named word =
    if bytes_eq word (codes "none") then Some live.Nothing
    else (if bytes_eq word (codes "tests") then Some live.Tests
    else (if bytes_eq word (codes "failures") then Some live.Failures
    else (if bytes_eq word (codes "dots") then Some live.Dots
    else None)))

-- the kind behind an option with this value
abbrev pub live_with : Live → (option value : List ℕ) → Option Live
live_with kind option value = if bytes_eq option (codes "--live") then live_named value else Some kind

-- the kind behind one item more: a value that names none spoils it for good
abbrev pub live_behind : Option Live → Item → Option Live
live_behind None item = None
live_behind (Some kind) (flag given) = Some kind
live_behind (Some kind) (valued option value) = live_with kind option value
live_behind (Some kind) (name word) = Some kind

-- the kind that the options ask for: the last stands, and where there is none, a line of each test is printed
abbrev pub live_asked : List Item → Option Live
live_asked items = fold live_behind (Some live.Tests) items

-- what `subunit-trace` is asked to print
abbrev pub trace_of : List Item → Option Trace
trace_of items = option_map (λ kind. record { kind = kind; totals = not (has_flag (codes "--no-summary") items) }) (live_asked items)

-- What is printed.

-- the lines of the test that the event completes; foreign bytes are dropped
abbrev pub trace_line : Live → List Event → Note → List ℕ
trace_line kind seen (note.Foreign bytes) = []
trace_line kind seen (note.Event event) = live_rows kind (length (rows_done seen)) (option_to_list (completed_row seen event))

-- 1 where a test failed, or none ran
abbrev pub status_of_counts : Counts → ℕ
status_of_counts all = if nat_lt 0 all.failed || all.total == 0 then 1 else 0

-- at the end the lines of the tests that are left open, by route and id, and the totals, where they are asked for
abbrev pub trace_plan : Trace → Plan
trace_plan trace = record {
  gives = λ before note. trace_line trace.kind (events_among before) note;
  at_end = λ notes. live_end trace.kind (length (rows_done (events_among notes))) (open_rows (events_among notes)) ++ (if trace.totals then totals_text (tap_rows (events_among notes)) else []);
  status = λ notes. status_of_counts (sum_of (tap_rows (events_among notes)));
}
