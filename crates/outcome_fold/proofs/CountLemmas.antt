-- Counts, row by row.
use Rattle.std.proofs.Common.{◌≡◌, ℕ, ◌+◌, ◌<◌, Bool, true, false, true≢false, ◌||◌, cond, List, [], ◌∷◌, ◌++◌, Option, Some, None, is_some, take, length, get_or, refl, sym, ◌∙◌, ap, arith}
use Rattle.std.specs.List.{filter, list_any, count_by, sum_by}
use Rattle.std.specs.Option.{unwrap_or}
use Rattle.std.proofs.lemmas.List.Sums.{sum_by_push, sum_by-cons}
use Rattle.outcome_fold.specs.declared.row.Row.{Row}
use Rattle.outcome_fold.specs.declared.row.Counts.{Counts}
use Rattle.outcome_fold.specs.Answers.{row_fails, row_passes, is_skipped, is_counted, total_time, counted_rows, counts_in, counts_of}
use Rattle.outcome_fold.proofs.FoldLemmas.{append_none}
use Rattle.outcome_fold.proofs.TableLemmas.{any_push}
use Rattle.outcome_fold.proofs.AnswerLemmas.{filter_at}

count_push : (p : Row → Bool) (rows : List Row) (row : Row) → count_by p (rows ++ row ∷ []) ≡ count_by p rows + cond (p row) 1 0
count_push p rows row = sum_by_push (λ x. cond (p x) 1 0) rows row

length_push : (rows : List Row) (row : Row) → length (rows ++ row ∷ []) ≡ length rows + 1
length_push [] row = refl
length_push (x ∷ rows) row = let rest : length (rows ++ row ∷ []) ≡ length rows + 1 = length_push rows row in omega (arith, rest)

-- the counts with one row more
abbrev time_then : Option ℕ → Option ℕ → Option ℕ
time_then total nanos = cond (is_some total || is_some nanos) (Some (unwrap_or total 0 + unwrap_or nanos 0)) None

abbrev pub counted : Counts → Row → Counts
counted c row = record {
  total = c.total + 1;
  passed = c.passed + cond (row_passes row) 1 0;
  failed = c.failed + cond (row_fails row) 1 0;
  skipped = c.skipped + cond (is_skipped row) 1 0;
  nanos = time_then c.nanos row.nanos;
}

abbrev is_timed : Row → Bool
is_timed row = is_some row.nanos

abbrev time_of : Row → ℕ
time_of row = unwrap_or row.nanos 0

none_first : (o : Option ℕ) (any : Bool) (sum : ℕ) → (is_some o || any) ≡ false → (any ≡ false → sum ≡ 0) → unwrap_or o 0 + sum ≡ 0
none_first None any sum none zero = let rest = zero none in omega (arith, rest)
none_first (Some n) any sum none zero = absurd (true≢false none)

none_timed : (rows : List Row) → list_any is_timed rows ≡ false → sum_by time_of rows ≡ 0
none_timed [] none = refl
none_timed (row ∷ rows) none = sum_by-cons time_of row rows ∙ none_first row.nanos (list_any is_timed rows) (sum_by time_of rows) none (none_timed rows)

time_at : (any : Bool) (sum : ℕ) (o : Option ℕ) → (any ≡ false → sum ≡ 0) → cond (cond (is_some o) true any) (Some (sum + unwrap_or o 0)) None ≡ time_then (cond any (Some sum) None) o
time_at true sum None zero = refl
time_at true sum (Some n) zero = refl
time_at false sum None zero = refl
time_at false sum (Some n) zero = ap (λ (m : ℕ). Some (m + n)) (zero refl)

time_push : (rows : List Row) (row : Row) → total_time (rows ++ row ∷ []) ≡ time_then (total_time rows) row.nanos
time_push rows row =
    (λ i. cond (any_push (λ row. is_some row.nanos) rows row i) (Some (sum_by_push (λ row. unwrap_or row.nanos 0) rows row i)) None)
    ∙ time_at (list_any (λ row. is_some row.nanos) rows) (sum_by (λ row. unwrap_or row.nanos 0) rows) row.nanos (none_timed rows)

counts_push : (rows : List Row) (row : Row) → counts_in (rows ++ row ∷ []) ≡ counted (counts_in rows) row
counts_push rows row =
    let total = length_push rows row in
    let passed = count_push row_passes rows row in
    let failed = count_push row_fails rows row in
    let skipped = count_push is_skipped rows row in
    let nanos = time_push rows row in
    λ i. record { total = total i; passed = passed i; failed = failed i; skipped = skipped i; nanos = nanos i }

pub one_counted : (counts next : Counts) (row : Row) → next ≡ counted counts row → (rows : List Row) → counts ≡ counts_in rows → next ≡ counts_in (rows ++ row ∷ [])
one_counted counts next row step rows is = step ∙ ap (λ c. counted c row) is ∙ sym (counts_push rows row)

-- the counted rows with one row more
pub rows_take : (tags : List (List ℕ)) (rows : List Row) (i : ℕ) (row : Row) → i < length rows → row ≡ get_or rows i row → is_counted tags row ≡ true → counts_in (counted_rows tags (take i rows) ++ row ∷ []) ≡ counts_of tags (take (i + 1) rows)
rows_take tags rows i row below is counts =
    ap counts_in (sym (filter_at (is_counted tags) rows i row below is ∙ ap (λ b. filter (is_counted tags) (take i rows) ++ cond b (row ∷ []) []) counts))

-- and one that is not
pub counts_skip : (tags : List (List ℕ)) (rows : List Row) (i : ℕ) (row : Row) → i < length rows → row ≡ get_or rows i row → is_counted tags row ≡ false → counts_of tags (take (i + 1) rows) ≡ counts_of tags (take i rows)
counts_skip tags rows i row below is skips =
    ap counts_in (filter_at (is_counted tags) rows i row below is ∙ ap (λ b. filter (is_counted tags) (take i rows) ++ cond b (row ∷ []) []) skips ∙ append_none (filter (is_counted tags) (take i rows)))
