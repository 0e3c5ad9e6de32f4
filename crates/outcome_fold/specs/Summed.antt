-- What is kept of the rows of a run where those that pass are not (docs/FORMATS.md, "What the rows say").
use Rattle.std.specs.Prelude.{◌≡◌, ℕ, Bool, ◌&&◌, not, Option, is_some, List, Result, Ok, Err}
use Rattle.std.specs.FinMap.{FinMap}
use Rattle.std.specs.List.{filter}
use Rattle.packet_codec.specs.declared.event.Event.{Event}
use Rattle.outcome_fold.specs.declared.row.Ended.{Ended}
use Rattle.outcome_fold.specs.declared.row.Row.{Row}
use Rattle.outcome_fold.specs.declared.summary.Summary.{Summary}
use Rattle.outcome_fold.specs.declared.summary.Timed.{Timed}
use Rattle.outcome_fold.specs.declared.row_sums.RowSums.{RowSums}
use Rattle.outcome_fold.specs.Answers.{row_fails, is_run, ids_of, times_of, counts_of}
use Rattle.outcome_fold.specs.Folded.{HasSeen}
use Rattle.outcome_fold.specs.Order.{in_byte_order, text_cmp}
use Rattle.outcome_fold.specs.Rows.{completed_rows}

-- the row is of a test that ran and has no time
abbrev pub is_untimed : Row → Bool
is_untimed row = is_run row && not (is_some row.nanos)

-- their ids in the order of their bytes, each once
abbrev pub untimed_of : List Row → List (List ℕ)
untimed_of rows = in_byte_order (ids_of (filter is_untimed rows))

-- the row is of this id, ended so, and has this time
pub record HasTime (row : Row) (id : List ℕ) (how : Ended) (time : Option ℕ) : Type 0 where
  pub id_is : row.id ≡ id
  pub how_is : row.ended ≡ how
  pub time_is : row.nanos ≡ time

-- This is kept of these rows: those that fail, in their order; how many there are, where these tags filter; and of the tests
-- that ran the ids with their longest times, and the ids of rows without a time.
pub record Sums (filter_tags : List (List ℕ)) (rows : List Row) (summary : Summary) : Type 0 where
  pub failing : summary.failing.items ≡ filter row_fails rows
  pub counts : summary.counts ≡ counts_of filter_tags rows
  pub times : summary.times ≡ times_of rows
  pub untimed : summary.untimed ≡ untimed_of rows

-- the longest times that are kept
abbrev pub times_kept : Summary → FinMap text_cmp ℕ
times_kept summary = summary.times

-- an id and its time, as the code keeps them
abbrev pub shown_time : Timed → List ℕ × ℕ
shown_time timed = (timed.id.now, timed.nanos)

-- the answer, with the rows in place of what was kept of them
abbrev pub with_rows : {A E : Type 0} → List Row → Result A E → Result (List Row) E
with_rows rows (Ok kept) = Ok rows
with_rows rows (Err fault) = Err fault

-- the events were folded, and the rows that they complete are summed up
pub record HasSummed (filter_tags : List (List ℕ)) (summing : RowSums) (seen : List Event) : Type 0 where
  pub tags : summing.filter_tags ≡ filter_tags
  pub started : HasSeen summing.fold seen
  pub sums : Sums filter_tags (completed_rows seen) summing.summary
