-- What is kept while the lines of a run are written (docs/COMMANDS.md, "Live lines").
use Rattle.std.specs.Prelude.{◌≡◌, ◌%◌, List, length}
use Rattle.std.specs.List.{filter}
use Rattle.outcome_fold.specs.Answers.{is_run}
use Rattle.outcome_fold.specs.declared.row.Counts.{Counts}
use Rattle.outcome_fold.specs.declared.row.Row.{Row}
use Rattle.outcome_fold.specs.Rows.{is_skip}
use Rattle.live_text.specs.Live.{marks_a_line}
use Rattle.live_text.specs.Totals.{sum_of, rows_with, is_success, is_expected, is_unexpected, is_failed, sums_of_lanes}
use Rattle.live_text.specs.declared.live.Live.{Live}
use Rattle.live_text.specs.declared.totals.Kinds.{Kinds}
use Rattle.live_text.specs.declared.totals.Totals.{Totals}
use Rattle.live_text.specs.declared.writer.LiveWriter.{LiveWriter}

-- the rows are counted by how they ended
pub record CountsKinds (kinds : Kinds) (rows : List Row) : Type 0 where
  pub success : kinds.success ≡ sum_of (rows_with is_success rows)
  pub skipped : kinds.skipped ≡ sum_of (rows_with is_skip rows)
  pub expected : kinds.expected ≡ sum_of (rows_with is_expected rows)
  pub unexpected : kinds.unexpected ≡ sum_of (rows_with is_unexpected rows)
  pub failed : kinds.failed ≡ sum_of (rows_with is_failed rows)

-- the rows are counted by their lanes
abbrev pub CountsLanes : List Counts → List Row → Type 0
CountsLanes lanes rows = lanes ≡ sums_of_lanes rows

-- the rows are counted in each of the ways
pub record HasTotalled (totals : Totals) (rows : List Row) : Type 0 where
  pub all : totals.all ≡ sum_of rows
  pub kinds : CountsKinds totals.kinds rows
  pub lanes : CountsLanes totals.lanes.items rows

-- the lines of this kind of the rows were written
pub record HasWritten (kind : Live) (writer : LiveWriter) (rows : List Row) : Type 0 where
  pub kind_is : writer.kind ≡ kind
  pub column : writer.column ≡ length (filter is_run rows) % marks_a_line
  pub totals : HasTotalled writer.totals rows
