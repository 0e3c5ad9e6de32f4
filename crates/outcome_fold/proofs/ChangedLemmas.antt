-- What a partial run makes of the failing ids, by what is kept of its rows.
use Rattle.std.proofs.Common.{◌≡◌, ℕ, Bool, true, false, ◌&&◌, ◌||◌, not, cond, is_some, List, [], ◌∷◌, ◌++◌, Some, None, refl, sym, ◌∙◌, ap}
use Rattle.std.specs.FinMap as fin
use Rattle.std.specs.FinMap.{contains_key-keys}
use Rattle.std.specs.List.{filter}
use Rattle.std.specs.Ordering.{eq_by_cmp}
use Rattle.outcome_fold.specs.declared.row.Row.{Row}
use Rattle.outcome_fold.specs.Order.{text_cmp, among, in_byte_order, without}
use Rattle.outcome_fold.specs.Answers.{row_fails, is_run, ids_of, has_failure, failing_of, passed_of, timed_rows, times_of, longest}
use Rattle.outcome_fold.specs.Summed.{is_untimed, untimed_of}
use Rattle.outcome_fold.proofs.OrderLemmas.{texts_total, exact_texts}
use Rattle.outcome_fold.proofs.TableLemmas.{get-table, tied_is}
use Rattle.outcome_fold.proofs.SetLemmas.{same_order, among_order, among_both, among_without}
use Rattle.outcome_fold.proofs.AnswerLemmas.{among_failing}

fails_still : (row : Row) (rows : List Row) (b : Bool) → row_fails row ≡ b → filter row_fails (filter row_fails rows) ≡ filter row_fails rows → filter row_fails (cond b (row ∷ filter row_fails rows) (filter row_fails rows)) ≡ cond b (row ∷ filter row_fails rows) (filter row_fails rows)
fails_still row rows true is rest = ap (λ b. cond b (row ∷ filter row_fails (filter row_fails rows)) (filter row_fails (filter row_fails rows))) is ∙ ap (λ l. row ∷ l) rest
fails_still row rows false is rest = rest

failing_twice : (rows : List Row) → filter row_fails (filter row_fails rows) ≡ filter row_fails rows
failing_twice [] = refl
failing_twice (row ∷ rows) = fails_still row rows (row_fails row) refl (failing_twice rows)

-- the rows that fail tell which ids do
pub failing_kept : (rows kept : List Row) → kept ≡ filter row_fails rows → failing_of kept ≡ failing_of rows
failing_kept rows kept is = ap failing_of is ∙ ap (λ l. in_byte_order (ids_of l)) (failing_twice rows)

-- ---- which ids are of tests that ran

among_first : (b : Bool) (row : Row) (rows : List Row) (q : List ℕ) → among (ids_of (cond b (row ∷ rows) rows)) q ≡ ((b && eq_by_cmp text_cmp q row.id) || among (ids_of rows) q)
among_first true row rows q = refl
among_first false row rows q = refl

either : (runs time tie t u a : Bool) → (t || u) ≡ a → ((((runs && time) && tie) || t) || (((runs && not time) && tie) || u)) ≡ ((runs && tie) || a)
either true true true t u a is = refl
either true true false t u a is = is
either true false true true u a is = refl
either true false true false u a is = refl
either true false false t u a is = is
either false time tie t u a is = is

with_and_without : (rows : List Row) (q : List ℕ) → (among (ids_of (timed_rows rows)) q || among (ids_of (filter is_untimed rows)) q) ≡ among (ids_of (filter is_run rows)) q
with_and_without [] q = refl
with_and_without (row ∷ rows) q =
    (λ i. among_first (is_run row && is_some row.nanos) row (timed_rows rows) q i || among_first (is_untimed row) row (filter is_untimed rows) q i)
    ∙ either (is_run row) (is_some row.nanos) (eq_by_cmp text_cmp q row.id) (among (ids_of (timed_rows rows)) q) (among (ids_of (filter is_untimed rows)) q) (among (ids_of (filter is_run rows)) q) (with_and_without rows q)
    ∙ sym (among_first (is_run row) row (filter is_run rows) q)

there : {A : Type 0} (b : Bool) (x : A) → is_some (cond b (Some x) None) ≡ b
there true x = refl
there false x = refl

-- an id has a time, or is without one, exactly where its test ran
ran : (rows : List Row) (q : List ℕ) → (among (fin.keys (times_of rows)) q || among (untimed_of rows) q) ≡ among (ids_of (filter is_run rows)) q
ran rows q =
    let timed = timed_rows rows in
    (λ i. (sym (contains_key-keys (times_of rows) q) ∙ ap is_some (get-table texts_total exact_texts (longest timed) (ids_of timed) q) ∙ there (among (ids_of timed) q) (longest timed q)) i || among_order (ids_of (filter is_untimed rows)) q i)
    ∙ with_and_without rows q

-- ---- which of them passed

one_passed : (runs tie own fails rest : Bool) → (tie ≡ true → own ≡ fails) → (((runs && not own) && tie) || (rest && not fails)) ≡ (((runs && tie) || rest) && not fails)
one_passed true true own true rest same = ap (λ own. (not own && true) || (rest && false)) (same refl) ∙ never rest
  where
    never : (rest : Bool) → (rest && false) ≡ false
    never true = refl
    never false = refl
one_passed true true own false rest same = ap (λ own. (not own && true) || (rest && true)) (same refl)
one_passed true false true fails rest same = refl
one_passed true false false fails rest same = refl
one_passed false tie own fails rest same = refl

passed_at : (all rows : List Row) (q : List ℕ) → among (ids_of (filter (λ row. is_run row && not (has_failure all row.id)) rows)) q ≡ (among (ids_of (filter is_run rows)) q && not (has_failure all q))
passed_at all [] q = refl
passed_at all (row ∷ rows) q =
    among_first (is_run row && not (has_failure all row.id)) row (filter (λ row. is_run row && not (has_failure all row.id)) rows) q
    ∙ ap (λ b. ((is_run row && not (has_failure all row.id)) && eq_by_cmp text_cmp q row.id) || b) (passed_at all rows q)
    ∙ one_passed (is_run row) (eq_by_cmp text_cmp q row.id) (has_failure all row.id) (has_failure all q) (among (ids_of (filter is_run rows)) q) (λ tie. ap (has_failure all) (sym (tied_is exact_texts q row.id tie)))
    ∙ ap (λ b. b && not (has_failure all q)) (sym (among_first (is_run row) row (filter is_run rows) q))

among_passed : (rows : List Row) (q : List ℕ) → among (passed_of rows) q ≡ (among (ids_of (filter is_run rows)) q && not (has_failure rows q))
among_passed rows q = among_order (ids_of (filter (λ row. is_run row && not (has_failure rows row.id)) rows)) q ∙ passed_at rows rows q

-- ---- the ids of all tests that ran are taken out, and those that fail are put back

all_kept : (b old : Bool) → ((not b && old) || true) ≡ true
all_kept true old = refl
all_kept false true = refl
all_kept false false = refl

put_back : (timed untimed runs fails old : Bool) → (timed || untimed) ≡ runs → ((not untimed && (not timed && old)) || fails) ≡ ((not (runs && not fails) && old) || fails)
put_back timed untimed runs true old is = all_kept untimed (not timed && old) ∙ sym (all_kept (runs && false) old)
put_back true true runs false old is = ap (λ b. (not (b && true) && old) || false) is
put_back true false runs false old is = ap (λ b. (not (b && true) && old) || false) is
put_back false true runs false old is = ap (λ b. (not (b && true) && old) || false) is
put_back false false runs false old is = ap (λ b. (not (b && true) && old) || false) is

pub changed_by_kept : (rows : List Row) (timed untimed failing ids old first kept new : List (List ℕ)) → timed ≡ fin.keys (times_of rows) → untimed ≡ untimed_of rows → failing ≡ failing_of rows → ids ≡ failing
    → first ≡ without old timed → kept ≡ without first untimed → new ≡ in_byte_order (kept ++ ids) → new ≡ in_byte_order (without old (passed_of rows) ++ failing_of rows)
changed_by_kept rows timed untimed failing ids old first kept new timed-is untimed-is failing-is ids-is first-is kept-is new-is =
    new-is
    ∙ (λ i. in_byte_order ((kept-is ∙ (λ j. without ((first-is ∙ ap (without old) timed-is) j) (untimed-is j))) i ++ (ids-is ∙ failing-is) i))
    ∙ same_order (without (without old (fin.keys (times_of rows))) (untimed_of rows) ++ failing_of rows) (without old (passed_of rows) ++ failing_of rows) (λ q.
    among_both (without (without old (fin.keys (times_of rows))) (untimed_of rows)) (failing_of rows) q
    ∙ (λ i. (among_without (without old (fin.keys (times_of rows))) (untimed_of rows) q ∙ ap (λ b. not (among (untimed_of rows) q) && b) (among_without old (fin.keys (times_of rows)) q)) i || among_failing rows q i)
    ∙ put_back (among (fin.keys (times_of rows)) q) (among (untimed_of rows) q) (among (ids_of (filter is_run rows)) q) (has_failure rows q) (among old q) (ran rows q)
    ∙ sym ((λ i. (among_without old (passed_of rows) q ∙ ap (λ b. not b && among old q) (among_passed rows q)) i || among_failing rows q i))
    ∙ sym (among_both (without old (passed_of rows)) (failing_of rows) q))
