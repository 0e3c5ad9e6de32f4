-- The totals behind the lines of a run (docs/COMMANDS.md, "subunit-trace").
use Rattle.std.specs.Prelude.{ℕ, suc, ◌+◌, ◌*◌, ◌-◌, Bool, true, false, not, ◌&&◌, Option, None, Some, List, [], ◌∷◌, ◌++◌, codes, nat_le, map, if◌then◌else◌, ◌==◌}
use Rattle.std.specs.List.{filter, range_with_len}
use Rattle.std.specs.Fmt.{decimal}
use Rattle.outcome_fold.specs.Answers.{counts_of}
use Rattle.outcome_fold.specs.declared.row.Counts.{Counts}
use Rattle.outcome_fold.specs.declared.row.Ended.{Ended}
use Rattle.outcome_fold.specs.declared.row.Ended.TheVariants as ended
use Rattle.outcome_fold.specs.declared.row.Row.{Row}
use Rattle.outcome_fold.specs.Rows.{is_skip}
use Rattle.outcome_fold.specs.Lines.{newline}
use Rattle.sub_number.specs.Seconds.{printed_seconds}
use Rattle.live_text.specs.Live.{lane_shown}

-- how many tests there are of those that ran, and how long they took
abbrev pub sum_of : List Row → Counts
sum_of rows = counts_of [] rows

-- How tests ended, as the totals have it: each kind is a line.

-- the test passed
abbrev pub is_success : Ended → Bool
is_success ended.Exists = false
is_success ended.Success = true
is_success ended.UxSuccess = false
is_success ended.Skip = false
is_success ended.Fail = false
is_success ended.XFail = false
is_success ended.Open = false

-- the test failed, as was expected
abbrev pub is_expected : Ended → Bool
is_expected ended.Exists = false
is_expected ended.Success = false
is_expected ended.UxSuccess = false
is_expected ended.Skip = false
is_expected ended.Fail = false
is_expected ended.XFail = true
is_expected ended.Open = false

-- the test passed, and was expected to fail
abbrev pub is_unexpected : Ended → Bool
is_unexpected ended.Exists = false
is_unexpected ended.Success = false
is_unexpected ended.UxSuccess = true
is_unexpected ended.Skip = false
is_unexpected ended.Fail = false
is_unexpected ended.XFail = false
is_unexpected ended.Open = false

-- the test failed, or was left open
abbrev pub is_failed : Ended → Bool
is_failed ended.Exists = false
is_failed ended.Success = false
is_failed ended.UxSuccess = false
is_failed ended.Skip = false
is_failed ended.Fail = true
is_failed ended.XFail = false
is_failed ended.Open = true

-- the rows that ended as this says
abbrev pub rows_with : (Ended → Bool) → List Row → List Row
rows_with kind rows = filter (λ row. kind row.ended) rows

-- Lanes.

-- so many lanes have a line of their own
abbrev pub most_lanes : ℕ
most_lanes = 100

-- the byte is a digit
abbrev pub is_digit : ℕ → Bool
is_digit byte = nat_le 48 byte && nat_le byte 57

-- the number below 100 that is spelled so, without a zero in front
abbrev pub number_of_lane : List ℕ → Option ℕ
number_of_lane [] = None
number_of_lane (a ∷ []) = if is_digit a then Some (a - 48) else None
number_of_lane (a ∷ b ∷ []) = if is_digit a && is_digit b && not (a == 48) then Some (10 * (a - 48) + (b - 48)) else None
number_of_lane (a ∷ b ∷ c ∷ more) = None

-- the lane is this one
abbrev pub is_lane : ℕ → Option ℕ → Bool
is_lane lane None = false
is_lane lane (Some other) = other == lane

-- the row came from this lane: from 0, where it has no route
abbrev pub is_row_of_lane : ℕ → Row → Bool
is_row_of_lane lane row = is_lane lane (number_of_lane (lane_shown row.route))

-- the rows of the lane
abbrev pub rows_of_lane : ℕ → List Row → List Row
rows_of_lane lane rows = filter (is_row_of_lane lane) rows

-- The text.

-- a kind of ends, and how many tests ended so
unfoldable pub kind_line : List ℕ → ℕ → List ℕ
kind_line name count = codes " - " ++ name ++ codes ": " ++ decimal count ++ newline

-- a time in seconds behind these words, where there is one
abbrev pub time_behind : List ℕ → Option ℕ → List ℕ
time_behind front None = []
time_behind front (Some nanos) = front ++ printed_seconds nanos ++ codes "s"

-- how many tests ran, and how long they took
abbrev pub ran_line : Counts → List ℕ
ran_line all = codes "Ran: " ++ decimal all.total ++ codes " tests" ++ time_behind (codes " in ") all.nanos ++ newline

-- the line of a lane, where tests of it ran
abbrev pub lane_line : ℕ → Counts → List ℕ
lane_line lane sum = if sum.total == 0 then [] else codes " - Worker " ++ decimal lane ++ codes " (" ++ decimal sum.total ++ codes " tests)" ++ time_behind (codes " => ") sum.nanos ++ newline

-- the lines of lanes of these counts, from this number on
abbrev pub lines_from : ℕ → List Counts → List ℕ
lines_from lane [] = []
lines_from lane (sum ∷ sums) = lane_line lane sum ++ lines_from (suc lane) sums

-- the counts of each lane, in the order of their numbers
abbrev pub sums_of_lanes : List Row → List Counts
sums_of_lanes rows = map (λ lane. sum_of (rows_of_lane lane rows)) (range_with_len 0 most_lanes)

-- how many tests ended in each way
unfoldable pub kinds_lines : (passed skipped expected unexpected failed : ℕ) → List ℕ
kinds_lines passed skipped expected unexpected failed =
    kind_line (codes "Passed") passed
    ++ kind_line (codes "Skipped") skipped
    ++ kind_line (codes "Expected Fail") expected
    ++ kind_line (codes "Unexpected Success") unexpected
    ++ kind_line (codes "Failed") failed

-- the totals of these counts, below an empty line
unfoldable pub totals_lines : Counts → (passed skipped expected unexpected failed : ℕ) → List Counts → List ℕ
totals_lines all passed skipped expected unexpected failed lanes =
    codes "\nTotals\n" ++ ran_line all ++ kinds_lines passed skipped expected unexpected failed ++ lines_from 0 lanes

-- how many of the rows ended so
abbrev pub count_with : (Ended → Bool) → List Row → ℕ
count_with kind rows = (sum_of (rows_with kind rows)).total

-- the totals of these rows
abbrev pub totals_text : List Row → List ℕ
totals_text rows =
    totals_lines (sum_of rows) (count_with is_success rows) (count_with is_skip rows) (count_with is_expected rows) (count_with is_unexpected rows) (count_with is_failed rows)
    (sums_of_lanes rows)
