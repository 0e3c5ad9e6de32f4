-- How one event changes the parts of a test, and the open tests.
use Rattle.std.proofs.Common.{◌≡◌, Bool, true, false, ◌&&◌, ◌||◌, cond, List, [], ◌∷◌, ◌++◌, Option, Some, None, refl, sym, ◌∙◌, ap}
use Rattle.std.specs.FinMap as fin
use Rattle.std.specs.Ordering.{eq_by_cmp}
use Rattle.std.specs.List.{filter, filter_map, list_any, cons_option}
use Rattle.packet_codec.specs.declared.event.Event.{Event}
use Rattle.outcome_fold.specs.declared.test_key.TestKey.{TestKey}
use Rattle.outcome_fold.specs.declared.part.Started.{Started}
use Rattle.outcome_fold.specs.Order.{test_cmp}
use Rattle.outcome_fold.specs.Parts.{test_of, speaks_of, events_of_test, has_end_status, last_part}
use Rattle.outcome_fold.specs.Rows.{has_events, is_open, open_tests}
use Rattle.outcome_fold.specs.Started.{started_of, open_table}
use Rattle.outcome_fold.proofs.OrderLemmas.{tests_total, exact_tests}
use Rattle.outcome_fold.proofs.TableLemmas.{tied_is, get-table, any_push}

pub filter_push : {A : Type 0} (p : A → Bool) (xs : List A) (x : A) → filter p (xs ++ x ∷ []) ≡ filter p xs ++ cond (p x) (x ∷ []) []
filter_push p [] x = refl
filter_push p (y ∷ xs) x = elim (p y) as (λ b. cond b (y ∷ filter p (xs ++ x ∷ [])) (filter p (xs ++ x ∷ [])) ≡ cond b (y ∷ filter p xs) (filter p xs) ++ cond (p x) (x ∷ []) []) [ true ↦ ap (λ l. y ∷ l) (filter_push p xs x) | false ↦ filter_push p xs x ]

pub append_none : {A : Type 0} (xs : List A) → xs ++ [] ≡ xs
append_none [] = refl
append_none (x ∷ xs) = ap (λ l. x ∷ l) (append_none xs)

-- the event that completes a part ends it
pub last_part_ends : (es : List Event) (e : Event) → has_end_status e ≡ true → last_part (es ++ e ∷ []) ≡ []
last_part_ends [] e ends = ap (λ b. cond (b || false) [] (e ∷ [])) ends
last_part_ends (x ∷ es) e ends = ap (λ b. cond b (last_part (es ++ e ∷ [])) (x ∷ es ++ e ∷ [])) (any_push has_end_status (x ∷ es) e ∙ ap (λ b. cond b true (list_any has_end_status (x ∷ es))) ends) ∙ last_part_ends es e ends

-- any other event is one more of its part
pub last_part_goes : (es : List Event) (e : Event) → has_end_status e ≡ false → last_part (es ++ e ∷ []) ≡ last_part es ++ e ∷ []
last_part_goes [] e goes = ap (λ b. cond (b || false) [] (e ∷ [])) goes
last_part_goes (x ∷ es) e goes =
    ap (λ b. cond b (last_part (es ++ e ∷ [])) (x ∷ es ++ e ∷ [])) (any_push has_end_status (x ∷ es) e ∙ ap (λ b. cond b true (list_any has_end_status (x ∷ es))) goes)
    ∙ elim (list_any has_end_status (x ∷ es)) as (λ b. cond b (last_part (es ++ e ∷ [])) (x ∷ es ++ e ∷ []) ≡ cond b (last_part es) (x ∷ es) ++ e ∷ []) [ true ↦ last_part_goes es e goes | false ↦ refl ]

-- the last part of a test
abbrev pub part_of_test : List Event → TestKey → List Event
part_of_test seen test = last_part (events_of_test test seen)

-- what a part says, where there is one
abbrev pub said_of_part : List Event → Option Started
said_of_part [] = None
said_of_part (e ∷ es) = Some (started_of (e ∷ es))

-- a test is among those of the events exactly where events speak of it
among_head : (t : Option TestKey) (e : Event) (seen : List Event) (q : TestKey) → list_any (eq_by_cmp test_cmp q) (filter_map test_of seen) ≡ has_events (events_of_test q seen) → list_any (eq_by_cmp test_cmp q) (cons_option t (filter_map test_of seen)) ≡ has_events (cond (speaks_of q t) (e ∷ events_of_test q seen) (events_of_test q seen))
among_head None e seen q rest = rest
among_head (Some t) e seen q rest = elim (eq_by_cmp test_cmp q t) as (λ b. (b || list_any (eq_by_cmp test_cmp q) (filter_map test_of seen)) ≡ has_events (cond b (e ∷ events_of_test q seen) (events_of_test q seen))) [ true ↦ refl | false ↦ rest ]

among_tests : (seen : List Event) (q : TestKey) → list_any (eq_by_cmp test_cmp q) (filter_map test_of seen) ≡ has_events (events_of_test q seen)
among_tests [] q = refl
among_tests (e ∷ seen) q = among_head (test_of e) e seen q (among_tests seen q)

part_from_events : (es : List Event) → has_events (last_part es) ≡ (has_events (last_part es) && has_events es)
part_from_events [] = refl
part_from_events (e ∷ es) = elim (has_events (last_part (e ∷ es))) as (λ b. b ≡ (b && true)) [ true ↦ refl | false ↦ refl ]

-- a test that ties with one that passes passes
filtered_head : (p : TestKey → Bool) (k : TestKey) (ks : List TestKey) (q : TestKey) (tie : Bool) → eq_by_cmp test_cmp q k ≡ tie → (passes : Bool) → p k ≡ passes → list_any (eq_by_cmp test_cmp q) (filter p ks) ≡ (p q && list_any (eq_by_cmp test_cmp q) ks) → list_any (eq_by_cmp test_cmp q) (cond passes (k ∷ filter p ks) (filter p ks)) ≡ (p q && (tie || list_any (eq_by_cmp test_cmp q) ks))
filtered_head p k ks q true is true passes rest = ap (λ b. b || list_any (eq_by_cmp test_cmp q) (filter p ks)) is ∙ sym (ap (λ b. b && true) (ap p (tied_is exact_tests q k is) ∙ passes))
filtered_head p k ks q true is false passes rest = rest ∙ ap (λ b. b && list_any (eq_by_cmp test_cmp q) ks) (ap p (tied_is exact_tests q k is) ∙ passes) ∙ sym (ap (λ b. b && true) (ap p (tied_is exact_tests q k is) ∙ passes))
filtered_head p k ks q false is true passes rest = ap (λ b. b || list_any (eq_by_cmp test_cmp q) (filter p ks)) is ∙ rest
filtered_head p k ks q false is false passes rest = rest

among_filtered : (p : TestKey → Bool) (ks : List TestKey) (q : TestKey) → list_any (eq_by_cmp test_cmp q) (filter p ks) ≡ (p q && list_any (eq_by_cmp test_cmp q) ks)
among_filtered p [] q = elim (p q) as (λ b. false ≡ (b && false)) [ true ↦ refl | false ↦ refl ]
among_filtered p (k ∷ ks) q = filtered_head p k ks q (eq_by_cmp test_cmp q k) refl (p k) refl (among_filtered p ks q)

pub among_open : (seen : List Event) (q : TestKey) → list_any (eq_by_cmp test_cmp q) (open_tests seen) ≡ is_open seen q
among_open seen q = among_filtered (is_open seen) (filter_map test_of seen) q ∙ ap (λ b. is_open seen q && b) (among_tests seen q) ∙ sym (part_from_events (events_of_test q seen))

said_or_none : (part : List Event) → cond (has_events part) (Some (started_of part)) None ≡ said_of_part part
said_or_none [] = refl
said_or_none (e ∷ es) = refl

-- what is kept of each test
pub get-open_table : (seen : List Event) (q : TestKey) → fin.get (open_table seen) q ≡ said_of_part (part_of_test seen q)
get-open_table seen q = get-table tests_total exact_tests _ (open_tests seen) q ∙ ap (λ b. cond b (Some (started_of (part_of_test seen q))) None) (among_open seen q) ∙ said_or_none (part_of_test seen q)
