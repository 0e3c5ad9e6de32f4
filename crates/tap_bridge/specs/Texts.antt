-- The lines of the Test Anything Protocol that rows are written as (docs/FORMATS.md, "TAP").
use Rattle.std.specs.Prelude.{◌≡◌, ℕ, ◌||◌, ◌==◌, Bool, true, false, List, [], ◌∷◌, ◌++◌, map, nat_lt, codes, if◌then◌else◌}
use Rattle.std.specs.List.{fold}
use Rattle.std.specs.Fmt.{decimal}
use Rattle.outcome_fold.specs.declared.row.Ended.{Ended}
use Rattle.outcome_fold.specs.declared.row.Ended.TheVariants as ended
use Rattle.outcome_fold.specs.declared.row.Row.{Row}
use Rattle.tap_bridge.specs.declared.writer.TapWriter.{TapWriter}
use Rattle.tap_bridge.specs.Events.{one_more}

-- A test that is there and did not run has no line.
abbrev pub has_line : Ended → Bool
has_line ended.Exists = false
has_line ended.Success = true
has_line ended.UxSuccess = true
has_line ended.Skip = true
has_line ended.Fail = true
has_line ended.XFail = true
has_line ended.Open = true

-- what the line of a test that ended so begins with
abbrev pub tap_verdict : Ended → List ℕ
tap_verdict ended.Exists = []
tap_verdict ended.Success = codes "ok "
tap_verdict ended.UxSuccess = codes "not ok "
tap_verdict ended.Skip = codes "ok "
tap_verdict ended.Fail = codes "not ok "
tap_verdict ended.XFail = codes "not ok "
tap_verdict ended.Open = codes "not ok "

-- the directive at the end of the line of a test that ended so
abbrev pub directive_text : Ended → List ℕ
directive_text ended.Exists = []
directive_text ended.Success = []
directive_text ended.UxSuccess = []
directive_text ended.Skip = codes " # SKIP"
directive_text ended.Fail = []
directive_text ended.XFail = codes " # TODO"
directive_text ended.Open = []

-- a control character or a `#`, which a line shows as `?`
abbrev pub is_hidden : ℕ → Bool
is_hidden byte = nat_lt byte 32 || byte == 35

-- a question mark in place of a byte that a line does not show
abbrev pub tap_shown_byte : ℕ → ℕ
tap_shown_byte byte = if is_hidden byte then 63 else byte

-- the id as a line shows it
abbrev pub tap_shown_id : List ℕ → List ℕ
tap_shown_id id = map tap_shown_byte id

-- the line of the test of this number
abbrev pub line_of_row : ℕ → Row → List ℕ
line_of_row number row = tap_verdict row.ended ++ decimal number ++ codes " " ++ tap_shown_id row.id ++ directive_text row.ended ++ codes "\n"

-- how many lines there are with this row, where there were so many before it
abbrev pub lines_with : ℕ → Row → ℕ
lines_with count row = if has_line row.ended then one_more count else count

-- how many lines the rows have
abbrev pub lines_in : List Row → ℕ
lines_in rows = fold lines_with 0 rows

-- what is written of the row where these came before it
abbrev pub tap_text_at : List Row → Row → List ℕ
tap_text_at before row = if has_line row.ended then line_of_row (one_more (lines_in before)) row else []

-- the lines of some rows, where others came before them
abbrev pub tap_text_behind : List Row → List Row → List ℕ
tap_text_behind before [] = []
tap_text_behind before (row ∷ rows) = tap_text_at before row ++ tap_text_behind (before ++ row ∷ []) rows

-- the lines of the rows, without the plan
abbrev pub tap_text_so_far : List Row → List ℕ
tap_text_so_far rows = tap_text_behind [] rows

-- the plan of so many tests
abbrev pub plan_line : ℕ → List ℕ
plan_line tests = codes "1.." ++ decimal tests ++ codes "\n"

-- the lines of the rows, and then the plan
abbrev pub tap_text : List Row → List ℕ
tap_text rows = tap_text_so_far rows ++ plan_line (lines_in rows)

-- the writer was given these rows
abbrev pub HasWrittenRows : TapWriter → List Row → Type 0
HasWrittenRows writer rows = writer.lines ≡ lines_in rows
