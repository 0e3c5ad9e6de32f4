-- What rows say of a run (docs/FORMATS.md, "What the rows say").
use Rattle.std.specs.Prelude.{ℕ, Bool, true, false, ◌&&◌, ◌||◌, not, Option, Some, None, List, [], ◌∷◌, map, max, length, nat_eq, is_some, if◌then◌else◌}
use Rattle.std.specs.List.{filter, list_any, flat_map, count_by, sum_by}
use Rattle.std.specs.FinMap.{FinMap}
use Rattle.std.specs.Option.{unwrap_or}
use Rattle.std.specs.Ordering.{eq_by_cmp}
use Rattle.std.specs.Cmp.Lexicographic.{pointwise}
use Rattle.outcome_fold.specs.declared.row.Ended.{Ended}
use Rattle.outcome_fold.specs.declared.row.Ended.TheVariants as ended
use Rattle.outcome_fold.specs.declared.row.Row.{Row}
use Rattle.outcome_fold.specs.declared.row.Counts.{Counts}
use Rattle.outcome_fold.specs.Order.{text_cmp, in_byte_order, table}
use Rattle.outcome_fold.specs.Rows.{is_failure, is_skip}

-- the row counts as failed: its test failed, passed where it was to fail, or was left open
abbrev pub row_fails : Row → Bool
row_fails row = is_failure row.ended

-- the test is only known to exist: this is no end of a test that ran
abbrev pub is_existing : Ended → Bool
is_existing ended.Exists = true
is_existing ended.Success = false
is_existing ended.UxSuccess = false
is_existing ended.Skip = false
is_existing ended.Fail = false
is_existing ended.XFail = false
is_existing ended.Open = false

-- The row is of any kind but `Exists`. A test that was skipped, or left open, counts as one that ran.
abbrev pub is_run : Row → Bool
is_run row = not (is_existing row.ended)

-- the ids of the rows, in the order of the rows, as often as they come
abbrev pub ids_of : List Row → List (List ℕ)
ids_of rows = map (λ row. row.id) rows

-- 1 where a row fails, else 0
abbrev pub status_of : List Row → ℕ
status_of rows = if list_any row_fails rows then 1 else 0

-- the ids of the rows that fail, in the order of their bytes, each once
abbrev pub failing_of : List Row → List (List ℕ)
failing_of rows = in_byte_order (ids_of (filter row_fails rows))

-- one of the rows of this id fails, under whatever route it is
abbrev pub has_failure : List Row → List ℕ → Bool
has_failure rows id = list_any (λ row. row_fails row && eq_by_cmp text_cmp id row.id) rows

-- the ids of the rows of tests that ran, where none of the id's rows fails, in the order of their bytes, each once
abbrev pub passed_of : List Row → List (List ℕ)
passed_of rows = in_byte_order (ids_of (filter (λ row. is_run row && not (has_failure rows row.id)) rows))

-- the rows of tests that ran and have a time
abbrev pub timed_rows : List Row → List Row
timed_rows rows = filter (λ row. is_run row && is_some row.nanos) rows

-- the longest time of the id's rows
abbrev pub longest : List Row → List ℕ → ℕ
longest [] id = 0
longest (row ∷ rows) id = if eq_by_cmp text_cmp id row.id then max (unwrap_or row.nanos 0) (longest rows id) else longest rows id

-- each id of the rows with the longest time of its rows
abbrev pub longest_times : List Row → FinMap text_cmp ℕ
longest_times rows = table {R = text_cmp} (longest rows) (ids_of rows)

-- each id of a row that has a time, with the longest time of its rows
abbrev pub times_of : List Row → FinMap text_cmp ℕ
times_of rows = longest_times (timed_rows rows)

-- the tags of the rows of tests that ran, in the order of their bytes, each once
abbrev pub seen_tags_of : List Row → List (List ℕ)
seen_tags_of rows = in_byte_order (flat_map (λ row. row.tags) (filter is_run rows))

-- the row has at least one of these tags
abbrev pub has_one_of : List (List ℕ) → Row → Bool
has_one_of tags row = list_any (λ tag. list_any (λ own. pointwise nat_eq own tag) row.tags) tags

-- a row is counted where its test ran, but for those that have one of the tags and do not fail
abbrev pub is_counted : List (List ℕ) → Row → Bool
is_counted filter_tags row = is_run row && (row_fails row || not (has_one_of filter_tags row))

-- the rows that are counted, in their order
abbrev pub counted_rows : List (List ℕ) → List Row → List Row
counted_rows filter_tags rows = filter (is_counted filter_tags) rows

-- the sum of the times, where one of the rows has a time
abbrev pub total_time : List Row → Option ℕ
total_time rows = if list_any (λ row. is_some row.nanos) rows then Some (sum_by (λ row. unwrap_or row.nanos 0) rows) else None

-- the row is of a test that was skipped
abbrev pub is_skipped : Row → Bool
is_skipped row = is_skip row.ended

-- the row neither fails nor was skipped, as that of a success or of a failure that was expected; asked only of rows that
-- are counted
abbrev pub row_passes : Row → Bool
row_passes row = not (row_fails row || is_skipped row)

-- how many rows these are, how many of them pass, fail and were skipped, and the sum of their times
abbrev pub counts_in : List Row → Counts
counts_in rows = record {
  total = length rows;
  passed = count_by row_passes rows;
  failed = count_by row_fails rows;
  skipped = count_by is_skipped rows;
  nanos = total_time rows;
}

-- the same of those of the rows that are counted, where these are the filter tags
abbrev pub counts_of : List (List ℕ) → List Row → Counts
counts_of filter_tags rows = counts_in (counted_rows filter_tags rows)
