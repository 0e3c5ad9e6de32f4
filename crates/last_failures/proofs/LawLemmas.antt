-- Each row that fails has a part.
use Rattle.std.proofs.Common.{◌≡◌, ℕ, zero, suc, ◌+◌, ◌<◌, ◌≤◌, Bool, true, false, ◌&&◌, true≢false, cond, List, [], ◌∷◌, ◌++◌, Option, Some, None, IsSome, is_some, refl, sym, ap, ◌∙◌, arith}
use Rattle.std.specs.Prelude.{Contains}
use Rattle.std.specs.Option.{option_to_list}
use Rattle.std.specs.Ordering.{eq_by_cmp}
use Rattle.std.specs.Cmp.{eq_by_cmp_equiv}
use Rattle.packet_codec.specs.declared.event.Event.{Event}
use Rattle.outcome_fold.specs.declared.row.Ended.{Ended}
use Rattle.outcome_fold.specs.declared.row.Row.{Row}
use Rattle.outcome_fold.specs.declared.test_key.TestKey.{TestKey}
use Rattle.outcome_fold.specs.Answers.{row_fails}
use Rattle.outcome_fold.specs.Order.{test_cmp}
use Rattle.outcome_fold.specs.Parts.{test_of, speaks_of, events_of_test, ended_by, has_end_status, last_part}
use Rattle.outcome_fold.specs.Rows.{is_failure, has_events, is_open, is_row_of, part_with, row_completing, completed_behind, completed_rows, open_rows, rows_of}
use Rattle.outcome_fold.proofs.LawLemmas.{as_many, parts_count}
use Rattle.outcome_fold.proofs.OrderLemmas.{tests_total}
use Rattle.outcome_fold.proofs.TotalLemmas.{total, total_is, total_append}
use Rattle.outcome_fold.specs.Folded.{is_failing_end}
use Rattle.outcome_fold.specs.TestPackets.{test_of_row}
use Rattle.last_failures.specs.Parts.{completes_failing, failed_behind, some_part, failed_part, or_else, last_failed_part}

abbrev counted : {A : Type 0} → (A → Bool) → A → ℕ
counted p x = cond (p x) 1 0

-- the row fails, and is of a part of this test
abbrev is_failure_at : TestKey → Row → Bool
is_failure_at test row = row_fails row && is_row_of test row

-- ---- counts

one_there : (p : Row → Bool) (row : Row) (rows : List Row) → p row ≡ true → Contains rows row → 0 < total (counted p) rows
one_there p row [] passes (k, below, at) = absurd (omega (arith, below))
one_there p row (first ∷ rows) passes (zero, below, at) =
    let here : counted p first ≡ 1 = ap (λ b. cond {A = ℕ} b 1 0) (ap p at ∙ passes) in
    omega (arith, here)
one_there p row (first ∷ rows) passes (suc k, below, at) =
    let rest : 0 < total (counted p) rows = one_there p row rows passes (k, omega (arith, below), at) in
    omega (arith, rest)

fewer_both : (p q : Bool) → cond {A = ℕ} (p && q) 1 0 ≤ cond q 1 0
fewer_both true true = omega arith
fewer_both true false = omega arith
fewer_both false true = omega arith
fewer_both false false = omega arith

fewer : (test : TestKey) (rows : List Row) → total (counted (is_failure_at test)) rows ≤ total (counted (is_row_of test)) rows
fewer test [] = omega arith
fewer test (row ∷ rows) = omega (arith, fewer_both (row_fails row) (is_row_of test row), fewer test rows)

-- ---- the rows that are completed

-- one for each event that completes a part of the test
one_event : (test : TestKey) (seen : List Event) (e : Event) (t : Option TestKey) (how : Option Ended) (rest : List Event) (n : ℕ) → ended_by e.status ≡ how → n ≡ total (counted has_end_status) rest → total (counted (is_row_of test)) (option_to_list (row_completing t how seen e)) + n ≡ total (counted has_end_status) (cond (speaks_of test t) (e ∷ rest) rest)
one_event test seen e None how rest n ends is = omega (arith, is)
one_event test seen e (Some t) None rest n ends is =
    let goes : counted has_end_status e ≡ 0 = ap (λ (o : Option Ended). cond {A = ℕ} (is_some o) 1 0) ends in
    elim (eq_by_cmp test_cmp test t) as (λ b. 0 + n ≡ total (counted has_end_status) (cond b (e ∷ rest) rest)) [
      | true ↦ omega (arith, is, goes)
      | false ↦ omega (arith, is)
    ]
one_event test seen e (Some t) (Some how) rest n ends is =
    let done : counted has_end_status e ≡ 1 = ap (λ (o : Option Ended). cond {A = ℕ} (is_some o) 1 0) ends in
    elim (eq_by_cmp test_cmp test t) as (λ b. (cond b 1 0 + 0) + n ≡ total (counted has_end_status) (cond b (e ∷ rest) rest)) [
      | true ↦ omega (arith, is, done)
      | false ↦ omega (arith, is)
    ]

completed_count : (test : TestKey) (seen es : List Event) → total (counted (is_row_of test)) (completed_behind seen es) ≡ total (counted has_end_status) (events_of_test test es)
completed_count test seen [] = refl
completed_count test seen (e ∷ es) =
    total_append (counted (is_row_of test)) (option_to_list (row_completing (test_of e) (ended_by e.status) seen e)) (completed_behind (seen ++ e ∷ []) es)
    ∙ one_event test seen e (test_of e) (ended_by e.status) (events_of_test test es) _ refl (completed_count test (seen ++ e ∷ []) es)

-- so the test is open where one of its rows is
open_count : (es : List Event) (test : TestKey) → total (counted (is_row_of test)) (open_rows es) ≡ cond (is_open es test) 1 0
open_count es test =
    omega (
      arith,
      as_many es (is_row_of test),
      parts_count es test,
      completed_count test [] es,
      total_is (counted (is_row_of test)) (completed_rows es),
      total_is (counted (is_row_of test)) (open_rows es),
      total_is (counted has_end_status) (events_of_test test es),
    )

is_true : (b : Bool) → 0 < cond {A = ℕ} b 1 0 → b ≡ true
is_true true some = refl
is_true false some = absurd (omega (arith, some))

-- ---- a part for each failure

by_event : (test : TestKey) (seen : List Event) (e : Event) (t : Option TestKey) (how : Option Ended) → total (counted (is_failure_at test)) (option_to_list (row_completing t how seen e)) ≡ cond (speaks_of test t && is_failing_end how) 1 0
by_event test seen e None how = refl
by_event test seen e (Some t) None = elim (eq_by_cmp test_cmp test t) as (λ b. ◌≡◌ {A = ℕ} 0 (cond (b && false) 1 0)) [ true ↦ refl | false ↦ refl ]
by_event test seen e (Some t) (Some how) = both (is_failure how) (eq_by_cmp test_cmp test t)
  where
    both : (fails same : Bool) → cond {A = ℕ} (fails && same) 1 0 + 0 ≡ cond (same && fails) 1 0
    both true true = refl
    both true false = refl
    both false true = refl
    both false false = refl

stays_some : (test : TestKey) (part : List Event) (seen es : List Event) → IsSome (failed_behind test (Some part) seen es)
stays_some test part seen [] = refl
stays_some test part seen (e ∷ es) =
    elim (completes_failing test e) as (λ b. IsSome (failed_behind test (cond b (Some (part_with test seen e)) (Some part)) (seen ++ e ∷ []) es)) [
      | true ↦ stays_some test (part_with test seen e) (seen ++ e ∷ []) es
      | false ↦ stays_some test part (seen ++ e ∷ []) es
    ]

completed_fails : (test : TestKey) (kept : Option (List Event)) (seen es : List Event) → 0 < total (counted (is_failure_at test)) (completed_behind seen es) → IsSome (failed_behind test kept seen es)
completed_fails test kept seen [] some = absurd (omega (arith, some))
completed_fails test kept seen (e ∷ es) some = by (completes_failing test e) refl (completed_fails test kept (seen ++ e ∷ []) es)
  where
    by : (b : Bool) → completes_failing test e ≡ b → (0 < total (counted (is_failure_at test)) (completed_behind (seen ++ e ∷ []) es) → IsSome (failed_behind test kept (seen ++ e ∷ []) es)) → IsSome (failed_behind test (cond b (Some (part_with test seen e)) kept) (seen ++ e ∷ []) es)
    by true fails rest = stays_some test (part_with test seen e) (seen ++ e ∷ []) es
    by false passes rest =
        let none : total (counted (is_failure_at test)) (option_to_list (row_completing (test_of e) (ended_by e.status) seen e)) ≡ 0 = by_event test seen e (test_of e) (ended_by e.status) ∙ ap (λ b. cond {A = ℕ} b 1 0) passes in
        rest (omega (arith, some, none, total_append (counted (is_failure_at test)) (option_to_list (row_completing (test_of e) (ended_by e.status) seen e)) (completed_behind (seen ++ e ∷ []) es)))

some_open : (part : List Event) (other : Option (List Event)) → has_events part ≡ true → IsSome (or_else (some_part part) other)
some_open [] other is = absurd (true≢false (sym is))
some_open (e ∷ es) other is = refl

some_else : (part : List Event) (other : Option (List Event)) → IsSome other → IsSome (or_else (some_part part) other)
some_else [] other some = some
some_else (e ∷ es) other some = refl

pub failures_have_parts : (es : List Event) (row : Row) → Contains (rows_of es) row → row_fails row ≡ true → IsSome (last_failed_part (test_of_row row) es)
failures_have_parts es row here fails = by (total (counted (is_failure_at test)) (completed_rows es)) refl
  where
    test : TestKey
    test = test_of_row row

    own : is_failure_at test row ≡ true
    own = ap (λ b. b && is_row_of test row) fails ∙ (eq_by_cmp_equiv tests_total).refl test

    all : 0 < total (counted (is_failure_at test)) (completed_rows es) + total (counted (is_failure_at test)) (open_rows es)
    all = omega (
      arith,
      one_there (is_failure_at test) row (rows_of es) own here,
      as_many es (is_failure_at test),
      total_is (counted (is_failure_at test)) (rows_of es),
      total_is (counted (is_failure_at test)) (completed_rows es),
      total_is (counted (is_failure_at test)) (open_rows es),
    )

    by : (n : ℕ) → total (counted (is_failure_at test)) (completed_rows es) ≡ n → IsSome (last_failed_part test es)
    by zero none =
        let left : is_open es test ≡ true = is_true (is_open es test) (omega (arith, all, none, fewer test (open_rows es), open_count es test)) in
        some_open (last_part (events_of_test test es)) (failed_part test es) left
    by (suc n) some = some_else (last_part (events_of_test test es)) (failed_part test es) (completed_fails test None [] es (omega (arith, some)))
