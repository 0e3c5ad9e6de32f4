-- The lines of rows, one row more.
use Rattle.std.proofs.Common.{◌≡◌, ℕ, zero, suc, ◌+◌, ◌%◌, ◌≤◌, Bool, true, false, cond, List, [], ◌∷◌, ◌++◌, take, drop, length, refl, sym, ◌∙◌, ap, arith}
use Rattle.std.specs.List.{filter}
use Rattle.std.proofs.lemmas.List.{append-nil, length-append}
use Rattle.std.proofs.lemmas.List.Elements.{filter-append}
use Rattle.outcome_fold.specs.Answers.{is_run}
use Rattle.outcome_fold.specs.declared.row.Row.{Row}
use Rattle.live_text.specs.Live.{live_line, live_lines, live_rows}
use Rattle.live_text.specs.declared.live.Live.{Live}
use Rattle.live_text.specs.Totals.{totals_lines, totals_text}
use Rattle.live_text.specs.Written.{HasTotalled}
use Rattle.live_text.specs.declared.totals.Totals.{Totals}
use Rattle.live_text.proofs.LiveLemmas.{lines_append}
use Rattle.live_text.proofs.TotalLemmas.{filter_push}

-- of a test that is only known to exist nothing is printed
pub row_hidden : (kind : Live) (n : ℕ) (row : Row) → is_run row ≡ false → live_rows kind n (row ∷ []) ≡ []
row_hidden kind n row is = ap (λ (b : Bool). live_lines kind n (cond b (row ∷ []) [])) is

pub row_shown : (kind : Live) (n : ℕ) (row : Row) → is_run row ≡ true → live_rows kind n (row ∷ []) ≡ live_line kind (n % 70) row
row_shown kind n row is = ap (λ (b : Bool). live_lines kind n (cond b (row ∷ []) [])) is ∙ append-nil (live_line kind (n % 70) row)

-- how many rows were printed behind one more
pub count_hidden : (rows : List Row) (row : Row) → is_run row ≡ false → length (filter is_run rows) ≡ length (filter is_run (rows ++ row ∷ []))
count_hidden rows row is = ap length (sym (append-nil (filter is_run rows)) ∙ sym (filter_push is_run rows row false is))

pub count_shown : (rows : List Row) (row : Row) → is_run row ≡ true → length (filter is_run rows) + 1 ≡ length (filter is_run (rows ++ row ∷ []))
count_shown rows row is =
    sym (length-append (filter is_run rows) (row ∷ [])) ∙ ap length (sym (filter_push is_run rows row true is))

-- the lines of rows, and of one row behind them
pub rows_push : (kind : Live) (before rows : List Row) (row : Row) → live_rows kind (length (filter is_run before)) (rows ++ row ∷ []) ≡ live_rows kind (length (filter is_run before)) rows ++ live_rows kind (length (filter is_run (before ++ rows))) (row ∷ [])
rows_push kind before rows row =
    let n = length (filter is_run before) in
    let count = sym (length-append (filter is_run before) (filter is_run rows)) ∙ ap length (sym (filter-append is_run before rows)) in
    ap (live_lines kind n) (filter-append is_run rows (row ∷ [])) ∙ lines_append kind n (filter is_run rows) (filter is_run (row ∷ []))
    ∙ ap (λ m. live_rows kind n rows ++ live_lines kind m (filter is_run (row ∷ []))) count

pub drop_past : {A : Type 0} (xs : List A) (k : ℕ) → length xs ≤ k → drop k xs ≡ []
drop_past [] zero few = refl
drop_past [] (suc k) few = refl
drop_past (x ∷ xs) zero few = absurd (omega (arith, few))
drop_past (x ∷ xs) (suc k) few = drop_past xs k (omega (arith, few))

pub take_past : {A : Type 0} (xs : List A) (k : ℕ) → length xs ≤ k → take k xs ≡ xs
take_past [] zero few = refl
take_past [] (suc k) few = refl
take_past (x ∷ xs) zero few = absurd (omega (arith, few))
take_past (x ∷ xs) (suc k) few = ap (λ l. x ∷ l) (take_past xs k (omega (arith, few)))

-- what was counted of the rows is their totals
pub totals_are : (totals : Totals) (rows : List Row) → HasTotalled totals rows
    → totals_lines totals.all totals.kinds.success.total totals.kinds.skipped.total totals.kinds.expected.total totals.kinds.unexpected.total totals.kinds.failed.total totals.lanes.items ≡ totals_text rows
totals_are totals rows has = λ i.
    totals_lines (has.all i) (has.kinds.success i).total (has.kinds.skipped i).total (has.kinds.expected i).total (has.kinds.unexpected i).total (has.kinds.failed i).total (has.lanes i)
