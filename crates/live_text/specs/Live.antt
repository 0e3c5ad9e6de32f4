-- The lines that are printed of a run while it goes on (docs/COMMANDS.md, "Live lines").
use Rattle.std.specs.Prelude.{ℕ, ◌+◌, ◌%◌, Option, None, Some, List, [], ◌∷◌, ◌++◌, length, codes, if◌then◌else◌, ◌==◌}
use Rattle.std.specs.List.{filter, flat_map}
use Rattle.bstr.specs.Text.{lines_of}
use Rattle.packet_codec.specs.Lanes.{lane_name}
use Rattle.packet_codec.specs.declared.event.Event.{Event}
use Rattle.outcome_fold.specs.Answers.{is_run}
use Rattle.outcome_fold.specs.Lines.{newline, line_end}
use Rattle.outcome_fold.specs.Rows.{is_failure, completed_rows, open_rows}
use Rattle.outcome_fold.specs.declared.row.Ended.{Ended}
use Rattle.outcome_fold.specs.declared.row.Ended.TheVariants as ended
use Rattle.outcome_fold.specs.declared.row.Row.{Row}
use Rattle.sub_text.specs.Texts.{failure_of}
use Rattle.sub_number.specs.Seconds.{printed_seconds}
use Rattle.live_text.specs.declared.live.Live.{Live}
use Rattle.live_text.specs.declared.live.Live.TheVariants.{Nothing, Tests, Failures, Dots}

-- The line of a test.

-- a route up to its first slash, which of a run spells the number of the lane, and 0 where there is none
abbrev pub lane_shown : Option (List ℕ) → List ℕ
lane_shown None = codes "0"
lane_shown (Some route) = lane_name route

-- the time in seconds, where there is one
abbrev pub time_in_brackets : Option ℕ → List ℕ
time_in_brackets None = []
time_in_brackets (Some nanos) = codes " [" ++ printed_seconds nanos ++ codes "s]"

-- why a test was skipped, where something says it
abbrev pub reason_shown : List ℕ → List ℕ
reason_shown [] = []
reason_shown (byte ∷ bytes) = codes ": " ++ byte ∷ bytes

-- how the test ended, in a word
abbrev pub word_of : Ended → List ℕ
word_of ended.Exists = []
word_of ended.Success = codes "ok"
word_of ended.UxSuccess = codes "FAILED"
word_of ended.Skip = codes "SKIPPED"
word_of ended.Fail = codes "FAILED"
word_of ended.XFail = codes "ok"
word_of ended.Open = codes "UNFINISHED"

-- a line behind four blanks
abbrev pub line_behind_blanks : List ℕ → List ℕ
line_behind_blanks line = codes "    " ++ line

-- each line of the text behind four blanks, and a newline where the last one has none
abbrev pub indented : List ℕ → List ℕ
indented text = flat_map line_behind_blanks (lines_of text) ++ line_end text

-- the lines that stand below the line of a test: its text, where it ended as a failure
abbrev pub lines_below_test : Ended → List ℕ → List ℕ
lines_below_test ended.Exists text = []
lines_below_test ended.Success text = []
lines_below_test ended.UxSuccess text = indented text
lines_below_test ended.Skip text = []
lines_below_test ended.Fail text = indented text
lines_below_test ended.XFail text = []
lines_below_test ended.Open text = []

-- the lane and the id
abbrev pub name_shown : Row → List ℕ
name_shown row = codes "{" ++ lane_shown row.route ++ codes "} " ++ row.id

-- what stands in front of how it ended: the lane, the id and the time
abbrev pub test_line_front : Row → List ℕ
test_line_front row = name_shown row ++ time_in_brackets row.nanos

-- how it ended, and why it was skipped
abbrev pub ending_shown : (reason : List ℕ) → Ended → List ℕ
ending_shown reason how = codes " ... " ++ word_of how ++ reason_shown reason ++ newline

-- how it ended, and the lines below
abbrev pub line_rest : (reason : List ℕ) → Row → List ℕ
line_rest reason row = ending_shown reason row.ended ++ lines_below_test row.ended row.text

-- the line of a test, and those below
abbrev pub test_line : (reason : List ℕ) → Row → List ℕ
test_line reason row = test_line_front row ++ line_rest reason row

-- Dots.

-- the mark of a test
abbrev pub mark_of : Ended → List ℕ
mark_of ended.Exists = []
mark_of ended.Success = codes "."
mark_of ended.UxSuccess = codes "F"
mark_of ended.Skip = codes "S"
mark_of ended.Fail = codes "F"
mark_of ended.XFail = codes "."
mark_of ended.Open = codes "F"

-- a line has so many marks
abbrev pub marks_a_line : ℕ
marks_a_line = 70

-- the mark of a row behind so many others in its line, and a newline where it is the last one there
abbrev pub mark_in_line : (column : ℕ) → Row → List ℕ
mark_in_line column row = mark_of row.ended ++ (if column + 1 == marks_a_line then newline else [])

-- The whole.

-- what a report says of a test that fails
abbrev pub failure_block : Row → List ℕ
failure_block row = if is_failure row.ended then failure_of row else []

-- what is printed of a row, where so many marks stand in the line
abbrev pub live_line : Live → (column : ℕ) → Row → List ℕ
live_line Nothing column row = []
live_line Tests column row = test_line row.reason row
live_line Failures column row = failure_block row
live_line Dots column row = mark_in_line column row

-- what is printed of the rows, behind so many others
abbrev pub live_lines : Live → (before : ℕ) → List Row → List ℕ
live_lines kind before [] = []
live_lines kind before (row ∷ rows) = live_line kind (before % marks_a_line) row ++ live_lines kind (before + 1) rows

-- the rows that the events complete, in the order of their completing events, but for tests that are only known to exist
abbrev pub rows_done : List Event → List Row
rows_done events = filter is_run (completed_rows events)

-- what is printed as the events come
abbrev pub live_so_far : Live → List Event → List ℕ
live_so_far kind events = live_lines kind 0 (rows_done events)

-- what ends the last line, where so many marks stand in it
abbrev pub last_line_end : Live → (column : ℕ) → List ℕ
last_line_end Nothing column = []
last_line_end Tests column = []
last_line_end Failures column = []
last_line_end Dots column = if column == 0 then [] else newline

-- what ends the last line, behind so many rows
abbrev pub end_behind_rows : Live → (rows : ℕ) → List ℕ
end_behind_rows kind rows = last_line_end kind (rows % marks_a_line)

-- how many rows are printed of these, behind so many others
abbrev pub printed_behind : (before : ℕ) → List Row → ℕ
printed_behind before rows = before + length (filter is_run rows)

-- what is printed of these, behind so many others: nothing of a test that is only known to exist
abbrev pub live_rows : Live → (before : ℕ) → List Row → List ℕ
live_rows kind before rows = live_lines kind before (filter is_run rows)

-- what is printed at the end, behind so many rows: the rows of the tests that were left open
abbrev pub live_end : Live → (before : ℕ) → List Row → List ℕ
live_end kind before rows = live_rows kind before rows ++ end_behind_rows kind (printed_behind before rows)

-- all that is printed of a run of these events
abbrev pub live_text : Live → List Event → List ℕ
live_text kind events = live_so_far kind events ++ live_end kind (length (rows_done events)) (open_rows events)
