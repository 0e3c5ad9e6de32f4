-- What is kept of the rows of a run, row by row.
use Rattle.std.proofs.Common.{◌≡◌, ℕ, Bool, true, false, ◌&&◌, not, is_some, cond, List, [], ◌∷◌, ◌++◌, Option, Some, None, max, sym, ◌∙◌, ap, subst}
use Rattle.std.specs.FinMap as fin
use Rattle.std.specs.Option.{unwrap_or}
use Rattle.std.specs.List.{filter}
use Rattle.std.specs.Prelude.{Result, Ok, Err, OnOk}
use Rattle.outcome_fold.specs.declared.row.Ended.{Ended}
use Rattle.outcome_fold.specs.declared.row.Row.{Row}
use Rattle.outcome_fold.specs.declared.row.Counts.{Counts}
use Rattle.outcome_fold.specs.declared.summary.Summary.{Summary}
use Rattle.outcome_fold.specs.Order.{in_byte_order}
use Rattle.outcome_fold.specs.Answers.{row_fails, is_run, is_existing, is_counted, ids_of, times_of, longest_times, counted_rows, counts_in, counts_of}
use Rattle.outcome_fold.specs.Summed.{Sums, is_untimed, untimed_of, HasTime}
use Rattle.outcome_fold.proofs.FoldLemmas.{filter_push, append_none}
use Rattle.outcome_fold.proofs.GroupLemmas.{map_push}
use Rattle.outcome_fold.proofs.SetLemmas.{order_push}
use Rattle.outcome_fold.proofs.AnswerLemmas.{longest_times_push}

-- one row more among those that pass a test
pub filter_takes : (p : Row → Bool) (rows : List Row) (row : Row) → p row ≡ true → filter p (rows ++ row ∷ []) ≡ filter p rows ++ row ∷ []
filter_takes p rows row passes = filter_push p rows row ∙ ap (λ b. filter p rows ++ cond b (row ∷ []) []) passes

-- and one that does not pass it
pub filter_skips : (p : Row → Bool) (rows : List Row) (row : Row) → p row ≡ false → filter p (rows ++ row ∷ []) ≡ filter p rows
filter_skips p rows row fails = filter_push p rows row ∙ ap (λ b. filter p rows ++ cond b (row ∷ []) []) fails ∙ append_none (filter p rows)

-- the counts with one row more
pub counted_more : (tags : List (List ℕ)) (rows : List Row) (row : Row) (counts next : Counts) → counts ≡ counts_of tags rows → is_counted tags row ≡ true → ((counted : List Row) → counts ≡ counts_in counted → next ≡ counts_in (counted ++ row ∷ [])) → next ≡ counts_of tags (rows ++ row ∷ [])
counted_more tags rows row counts next is takes step = step (counted_rows tags rows) is ∙ ap counts_in (sym (filter_takes (is_counted tags) rows row takes))

-- where the tags are those that filter
pub counted_by : (tags own : List (List ℕ)) (rows more : List Row) (counts next : Counts) → own ≡ tags → counts ≡ counts_of tags rows → (counts ≡ counts_of own rows → next ≡ counts_of own more) → next ≡ counts_of tags more
counted_by tags own rows more counts next same is step = step (is ∙ ap (λ tags. counts_of tags rows) (sym same)) ∙ ap (λ tags. counts_of tags more) same

abbrev is_timed : Row → Bool
is_timed row = is_run row && is_some row.nanos

both_of : (b : Bool) (o : Option ℕ) (n : ℕ) → b ≡ true → o ≡ Some n → (b && is_some o) ≡ true
both_of b o n runs some = ap (λ b. b && is_some o) runs ∙ ap is_some some

without_of : (b : Bool) (o : Option ℕ) → b ≡ true → o ≡ None → (b && not (is_some o)) ≡ true
without_of b o runs none = ap (λ b. b && not (is_some o)) runs ∙ ap (λ (o : Option ℕ). not (is_some o)) none

module _ (rows : List Row) (row : Row) (id : List ℕ) (how : Ended) (time : Option ℕ) (has : HasTime row id how time) where
  runs : is_existing how ≡ false → is_run row ≡ true
  runs other = ap (λ how. not (is_existing how)) has.how_is ∙ ap not other

  -- one that ran and has a time
  pub time_raised : (n : ℕ) → is_existing how ≡ false → time ≡ Some n → fin.insert (times_of rows) id (max n (unwrap_or (fin.get (times_of rows) id) 0)) ≡ times_of (rows ++ row ∷ [])
  time_raised n other some =
      let nanos : row.nanos ≡ Some n = has.time_is ∙ some in
      ap (λ id. fin.insert (times_of rows) id (max n (unwrap_or (fin.get (times_of rows) id) 0))) (sym has.id_is)
      ∙ sym (longest_times_push (filter is_timed rows) row n nanos)
      ∙ ap longest_times (sym (filter_takes is_timed rows row (both_of (is_run row) row.nanos n (runs other) nanos)))

  -- one that ran and has none
  pub untimed_put : is_existing how ≡ false → time ≡ None → in_byte_order (id ∷ untimed_of rows) ≡ untimed_of (rows ++ row ∷ [])
  untimed_put other none =
      ap (λ id. in_byte_order (id ∷ untimed_of rows)) (sym has.id_is)
      ∙ order_push (ids_of (filter is_untimed rows)) row.id ∙ ap in_byte_order (sym (map_push (λ row. row.id) (filter is_untimed rows) row))
      ∙ ap (λ l. in_byte_order (ids_of l)) (sym (filter_takes is_untimed rows row (without_of (is_run row) row.nanos (runs other) (has.time_is ∙ none))))

-- what each part of a call says, where it goes well
pub taken : {E : Type 0} (tags : List (List ℕ)) (rows : List Row) (summary : Summary) (result : Result (Unit {0}) E) → summary.failing.items ≡ filter row_fails rows → summary.counts ≡ counts_of tags rows → OnOk result (summary.times ≡ times_of rows) → OnOk result (summary.untimed ≡ untimed_of rows) → OnOk result (Sums tags rows summary)
taken tags rows summary (Ok done) failing counts times untimed = record { failing = failing; counts = counts; times = times; untimed = untimed }
taken tags rows summary (Err fault) failing counts times untimed = tt

-- sums by the same tags, of the same rows
pub same_sums : (tags others : List (List ℕ)) (rows more : List Row) (summary : Summary) → tags ≡ others → rows ≡ more → Sums tags rows summary → Sums others more summary
same_sums tags others rows more summary tag row sums = subst (λ (l : List Row). Sums others l summary) row (subst (λ (l : List (List ℕ)). Sums l rows summary) tag sums)
