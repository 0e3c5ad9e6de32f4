-- The texts that are printed of a run (docs/COMMANDS.md, "Printed texts").
use Rattle.std.specs.Prelude.{ℕ, ◌-◌, Bool, Option, None, Some, List, [], ◌∷◌, ◌++◌, map, take, length, replicate, codes, if◌then◌else◌, ◌==◌}
use Rattle.std.specs.Borrow.{Bor}
use Rattle.std.specs.List.{filter, flat_map}
use Rattle.std.specs.Fmt.{decimal}
use Rattle.std.specs.Option.{unwrap_or}
use Rattle.std.specs.Ordering.{nat_cmp, is_lt, ordering_then}
use Rattle.std.specs.declared.cmp.Ordering.{Ordering}
use Rattle.outcome_fold.specs.declared.row.Ended.{Ended}
use Rattle.outcome_fold.specs.declared.row.Ended.TheVariants as ended
use Rattle.outcome_fold.specs.declared.row.Row.{Row}
use Rattle.outcome_fold.specs.declared.row.Counts.{Counts}
use Rattle.outcome_fold.specs.Lines.{newline, whole_lines}
use Rattle.outcome_fold.specs.Order.{text_cmp, route_cmp}
use Rattle.outcome_fold.specs.Answers.{row_fails, timed_rows, counts_of}
use Rattle.sub_number.specs.Seconds.{printed_seconds}

-- Seconds with three places.

-- The summary.

-- the first line's end: how long the tests took, where that is known
abbrev pub took : Option ℕ → List ℕ
took None = []
took (Some nanos) = codes " in " ++ printed_seconds nanos ++ codes "s"

-- the word for a run with so many failures
abbrev pub verdict_word : ℕ → List ℕ
verdict_word failed = if failed == 0 then codes "PASSED" else codes "FAILED"

-- how many of this name there are, where there are any
abbrev pub named_count : List ℕ → ℕ → List ℕ
named_count name count = if count == 0 then [] else name ++ decimal count

-- the line with how many tests ran, and how long they took
abbrev pub tests_and_time_line : Counts → List ℕ
tests_and_time_line counts = codes "Ran " ++ decimal counts.total ++ codes " tests" ++ took counts.nanos ++ newline

-- the line with the verdict, the run's number and how many failed and were skipped
abbrev pub second_line : Counts → ℕ → List ℕ
second_line counts run =
    verdict_word counts.failed ++ codes " (id=" ++ decimal run
    ++ named_count (codes ", failures=") counts.failed ++ named_count (codes ", skips=") counts.skipped ++ codes ")\n"

-- the two lines of a run of this number, of which these are the counts
abbrev pub summary_lines : Counts → ℕ → List ℕ
summary_lines counts run = tests_and_time_line counts ++ second_line counts run

-- the last two lines of a report on these rows
abbrev pub summary_text : List Row → ℕ → List (List ℕ) → List ℕ
summary_text rows run filter_tags = summary_lines (counts_of filter_tags rows) run

-- The report.

-- a line of 70 signs
unfoldable pub ruler : ℕ → List ℕ
ruler sign = replicate 70 sign ++ newline

-- What stands before the id of a test that failed. The others are not reported.
abbrev pub label : Ended → List ℕ
label ended.Exists = []
label ended.Success = []
label ended.UxSuccess = codes "UNEXPECTED SUCCESS"
label ended.Skip = []
label ended.Fail = codes "FAIL"
label ended.XFail = []
label ended.Open = codes "UNFINISHED"

-- the label and the id between two rulers, of `=` and of `-`
abbrev pub heading_of : Row → List ℕ
heading_of row = ruler 61 ++ label row.ended ++ codes ": " ++ row.id ++ newline ++ ruler 45

-- what a report says of a test that failed: its heading, and its text in whole lines
abbrev pub failure_of : Row → List ℕ
failure_of row = heading_of row ++ whole_lines row.text

-- the bytes of a part of a text that is lent
abbrev pub part_bytes : Bor (List ℕ) → List ℕ
part_bytes part = part.now

-- each row that fails, in the order of the rows, and then the summary
abbrev pub report_of : List Row → ℕ → List (List ℕ) → List ℕ
report_of rows run filter_tags = flat_map failure_of (filter row_fails rows) ++ summary_text rows run filter_tags

-- The failing ids.

-- an id in a line
abbrev pub id_line : List ℕ → List ℕ
id_line id = id ++ newline

-- the line of a test that fails
abbrev pub failing_line : List ℕ → List ℕ
failing_line id = codes "FAIL: " ++ id ++ newline

-- as a list, each id on a line; else with their number
abbrev pub failing_text_of : List (List ℕ) → Bool → List ℕ
failing_text_of ids list = if list then flat_map id_line ids else flat_map failing_line ids ++ codes "failures=" ++ decimal (length ids) ++ newline

-- The slowest tests.

-- a test that ran and has a time
pub record TimedTest : Type 0 where
  pub nanos : ℕ
  pub id : List ℕ
  pub route : Option (List ℕ)

-- the test of a row, with its time, 0 where it has none
abbrev pub timed_test : Row → TimedTest
timed_test row = record { nanos = unwrap_or row.nanos 0; id = row.id; route = row.route }

-- the longest first, of equal times by id, then by route
abbrev pub slow_cmp : TimedTest → TimedTest → Ordering
slow_cmp s t = ordering_then (nat_cmp t.nanos s.nanos) (ordering_then (text_cmp s.id t.id) (route_cmp s.route t.route))

-- in front of the first that is not before it
abbrev pub placed_by_time : TimedTest → List TimedTest → List TimedTest
placed_by_time t [] = t ∷ []
placed_by_time t (u ∷ us) = if is_lt (slow_cmp u t) then u ∷ placed_by_time t us else t ∷ u ∷ us

-- the tests, the slowest first
abbrev pub slowest_first : List TimedTest → List TimedTest
slowest_first [] = []
slowest_first (t ∷ ts) = placed_by_time t (slowest_first ts)

-- right in ten places, or in its own width where that is more
abbrev pub in_ten_places : List ℕ → List ℕ
in_ten_places text = replicate (10 - length text) 32 ++ text

-- the line of a test with its time
abbrev pub slow_line : TimedTest → List ℕ
slow_line t = in_ten_places (printed_seconds t.nanos) ++ codes "  " ++ t.id ++ newline

-- all of them, or the first ten
abbrev pub first_ones : Bool → List TimedTest → List TimedTest
first_ones all ts = if all then ts else take 10 ts

-- the lines of the slowest tests among the rows, of ten or of all
abbrev pub slowest_of : List Row → Bool → List ℕ
slowest_of rows all = flat_map slow_line (first_ones all (slowest_first (map timed_test (timed_rows rows))))
