-- Each test that an event speaks of has a row, so no test of a job is lost.
use Rattle.std.proofs.Common.{◌≡◌, ◌⊎◌, ℕ, zero, suc, ◌+◌, ◌<◌, ◌≤◌, Bool, true, false, ◌||◌, cond, Option, None, Some, List, [], ◌∷◌, length, refl, inl, inr, sym, subst, ◌∙◌, ap, arith}
use Rattle.std.specs.Prelude.{pos, negsuc, nat_le, slice_index_or}
use Rattle.std.specs.List.{AllByRecursion, filter, list_any, count_by}
use Rattle.std.specs.Option.{option_map}
use Rattle.std.specs.Ordering.{eq_by_cmp}
use Rattle.std.proofs.lemmas.Bool.{le-leb}
use Rattle.std.proofs.lemmas.Cmp.{eq_by_cmp_equiv}
use Rattle.std.proofs.lemmas.List.Elements.{All-nil, All-head, All-tail, All-weaker}
use Rattle.packet_codec.proofs.FilterLemmas.{filter_all}
use Rattle.edge_io.specs.Children.{Output}
use Rattle.edge_io.specs.declared.child.Finish.{Finish}
use Rattle.edge_io.specs.declared.child.Finish.TheVariants as finish
use Rattle.outcome_fold.specs.Answers.{ids_of}
use Rattle.outcome_fold.specs.Order.{text_cmp, test_cmp, among}
use Rattle.outcome_fold.specs.Parts.{test_of, speaks_of, events_of_test, has_end_status, last_part}
use Rattle.outcome_fold.specs.Rows.{has_events, is_open, is_row_of, rows_of}
use Rattle.outcome_fold.specs.declared.row.Row.{Row}
use Rattle.outcome_fold.specs.declared.test_key.TestKey.{TestKey}
use Rattle.outcome_fold.proofs.LawLemmas.{parts_count}
use Rattle.outcome_fold.proofs.OrderLemmas.{texts_total, exact_texts, tests_total, exact_tests}
use Rattle.outcome_fold.proofs.TableLemmas.{tied_is}
use Rattle.outcome_fold.proofs.TotalLemmas.{total_is}
use Rattle.packet_codec.specs.Lanes.{IsMerge, of_lane, is_of_lane}
use Rattle.packet_codec.specs.declared.event.Event.{Event}
use Rattle.suite_run.specs.NoneLost.{HasRow, LosesNone, AreAllShort, LoseNone}
use Rattle.worker_lane.specs.Endings.{ending_of}
use Rattle.worker_lane.specs.Lost.{is_id, longest_id, is_of_id, named_ids}
use Rattle.worker_lane.specs.Sought.{AreShort}
use Rattle.worker_lane.specs.Rest.{stream_events}
use Rattle.worker_lane.specs.declared.lot.Ending.TheVariants.{Exit, Fault, NoMemory}
use Rattle.worker_lane.proofs.LostLemmas.{named}
use Rattle.worker_mux.specs.Outputs.{first_ids, other_ids, events_asked, lists_asked}

-- ---- lists of which one passes

or_right : (b : Bool) → (b || true) ≡ true
or_right true = refl
or_right false = refl

any_more : {X : Type 0} (p : X → Bool) (x : X) (xs : List X) → list_any p xs ≡ true → list_any p (x ∷ xs) ≡ true
any_more p x xs is = ap (λ b. p x || b) is ∙ or_right (p x)

any_first : {X : Type 0} (p : X → Bool) (x : X) (xs : List X) → p x ≡ true → list_any p (x ∷ xs) ≡ true
any_first p x xs is = ap (λ b. b || list_any p xs) is

-- the first passes, or one of the others
abbrev AnyOf : {X : Type 0} → (p : X → Bool) → X → List X → Type 0
AnyOf p x xs = (p x ≡ true) ⊎ (list_any p xs ≡ true)

any_of : {X : Type 0} (p : X → Bool) (x : X) (xs : List X) (b : Bool) → p x ≡ b → list_any p (x ∷ xs) ≡ true → AnyOf p x xs
any_of p x xs true is any = inl is
any_of p x xs false is any = inr (ap (λ c. c || list_any p xs) (sym is) ∙ any)

any_kept : (p q : Event → Bool) (es : List Event) → list_any p (filter q es) ≡ true → list_any p es ≡ true
any_kept p q [] any = any
any_kept p q (e ∷ es) any = by_test (q e) (any_kept p q es) any
  where
    by_test : (b : Bool) → (list_any p (filter q es) ≡ true → list_any p es ≡ true) → list_any p (cond b (e ∷ filter q es) (filter q es)) ≡ true → list_any p (e ∷ es) ≡ true
    by_test true others any = elim (any_of p e (filter q es) (p e) refl any) [
      | inl first ↦ any_first p e es first
      | inr other ↦ any_more p e es (others other)
    ]
    by_test false others any = any_more p e es (others any)

-- one more that is counted, or not
counted_more : {X : Type 0} (p : X → Bool) (x : X) (xs : List X) → count_by p (x ∷ xs) ≡ cond (p x) 1 0 + count_by p xs
counted_more p x xs = total_is (λ y. cond {A = ℕ} (p y) 1 0) (x ∷ xs) ∙ ap (λ (n : ℕ). cond (p x) 1 0 + n) (sym (total_is (λ y. cond {A = ℕ} (p y) 1 0) xs))

any_counted : {X : Type 0} (p : X → Bool) (xs : List X) → list_any p xs ≡ true → 0 < count_by p xs
any_counted p [] any = absurd (cc)
any_counted p (x ∷ xs) any = by_test (p x) (any_counted p xs) refl
  where
    by_test : (b : Bool) → (list_any p xs ≡ true → 0 < count_by p xs) → p x ≡ b → 0 < count_by p (x ∷ xs)
    by_test true others is =
        let one : ◌≡◌ {A = ℕ} (cond (p x) 1 0) 1 = ap (λ c. cond {A = ℕ} c 1 0) is in
        omega (arith, one, counted_more p x xs)
    by_test false others is =
        let some : 0 < count_by p xs = others (ap (λ c. c || list_any p xs) (sym is) ∙ any) in
        omega (arith, some, counted_more p x xs)

counted_any : {X : Type 0} (p : X → Bool) (xs : List X) → 0 < count_by p xs → list_any p xs ≡ true
counted_any p [] some = absurd (omega (arith, some))
counted_any p (x ∷ xs) some = by_test (p x) (counted_any p xs) refl
  where
    by_test : (b : Bool) → (0 < count_by p xs → list_any p xs ≡ true) → p x ≡ b → list_any p (x ∷ xs) ≡ true
    by_test true others is = any_first p x xs is
    by_test false others is =
        let none : ◌≡◌ {A = ℕ} (cond (p x) 1 0) 0 = ap (λ c. cond {A = ℕ} c 1 0) is in
        let left : 0 < count_by p xs = omega (arith, none, some, counted_more p x xs) in
        any_more p x xs (others left)

any_part : (p : Event → Bool) (es : List Event) → list_any p es ≡ true → has_events (filter p es) ≡ true
any_part p [] any = absurd (cc)
any_part p (e ∷ es) any = by_test (p e) (any_part p es) refl
  where
    by_test : (b : Bool) → (list_any p es ≡ true → has_events (filter p es) ≡ true) → p e ≡ b → has_events (filter p (e ∷ es)) ≡ true
    by_test true others is = ap (λ c. has_events (cond c (e ∷ filter p es) (filter p es))) is
    by_test false others is = ap (λ c. has_events (cond c (e ∷ filter p es) (filter p es))) is ∙ others (ap (λ c. c || list_any p es) (sym is) ∙ any)

-- ---- a test that an event speaks of has a row

-- some events of a test are a part that is completed, or one that is open
some_part : (events : List Event) → has_events events ≡ true → 0 < count_by has_end_status events + cond (has_events (last_part events)) 1 0
some_part [] is = absurd (cc)
some_part (e ∷ es) is = by_test (list_any has_end_status (e ∷ es)) refl
  where
    by_test : (b : Bool) → list_any has_end_status (e ∷ es) ≡ b → 0 < count_by has_end_status (e ∷ es) + cond (has_events (last_part (e ∷ es))) 1 0
    by_test true any =
        let some : 0 < count_by has_end_status (e ∷ es) = any_counted has_end_status (e ∷ es) any in
        omega (arith, some)
    by_test false any = subst (λ c. 0 < count_by has_end_status (e ∷ es) + cond (has_events (cond c (last_part es) (e ∷ es))) 1 0) (sym any) (omega arith)

same_test : (test : TestKey) → eq_by_cmp test_cmp test test ≡ true
same_test test = (eq_by_cmp_equiv tests_total).refl test

same_text : (text : List ℕ) → eq_by_cmp text_cmp text text ≡ true
same_text text = (eq_by_cmp_equiv texts_total).refl text

speaks_by : (id : List ℕ) (route given : Option (List ℕ)) → is_id id given ≡ true → speaks_of (record { route = route; id = id }) (option_map (λ id. record { route = route; id = id }) given) ≡ true
speaks_by id route None is = absurd (cc)
speaks_by id route (Some other) is =
    subst (λ text. eq_by_cmp test_cmp (record { route = route; id = id }) (record { route = route; id = text }) ≡ true) (tied_is exact_texts id other is) (same_test (record { route = route; id = id }))

-- a test of this id that one of the events speaks of
record IsSpokenOf (id : List ℕ) (events : List Event) : Type 0 where
  test : TestKey
  id_is : test.id ≡ id
  spoken : list_any (λ e. speaks_of test (test_of e)) events ≡ true

spoken_of : (id : List ℕ) (events : List Event) → list_any (is_of_id id) events ≡ true → IsSpokenOf id events
spoken_of id [] any = absurd (cc)
spoken_of id (e ∷ es) any = elim (any_of (is_of_id id) e es (is_of_id id e) refl any) [
  | inl first ↦ (
      let test : TestKey = record { route = e.route; id = id } in
      record { test = test; id_is = refl; spoken = any_first (λ e. speaks_of test (test_of e)) e es (speaks_by id e.route e.id first) }
      )
  | inr other ↦ (
      let found = spoken_of id es other in
      record { test = found.test; id_is = found.id_is; spoken = any_more (λ e. speaks_of found.test (test_of e)) e es found.spoken }
      )
]

row_among : (test : TestKey) (rows : List Row) → list_any (is_row_of test) rows ≡ true → among (ids_of rows) test.id ≡ true
row_among test [] any = absurd (cc)
row_among test (row ∷ rows) any = elim (any_of (is_row_of test) row rows (is_row_of test row) refl any) [
  | inl first ↦ (
      let same : test ≡ record { route = row.route; id = row.id } = tied_is exact_tests test (record { route = row.route; id = row.id }) first in
      any_first (eq_by_cmp text_cmp test.id) row.id (ids_of rows) (subst (λ (t : TestKey). eq_by_cmp text_cmp test.id t.id ≡ true) same (same_text test.id))
      )
  | inr other ↦ any_more (eq_by_cmp text_cmp test.id) row.id (ids_of rows) (row_among test rows other)
]

pub has_row : (id : List ℕ) (events : List Event) → list_any (is_of_id id) events ≡ true → HasRow (rows_of events) id
has_row id events any =
    let found = spoken_of id events any in
    let some : 0 < count_by has_end_status (events_of_test found.test events) + cond (is_open events found.test) 1 0 = some_part (events_of_test found.test events) (any_part (λ e. speaks_of found.test (test_of e)) events found.spoken) in
    let counted : 0 < count_by (is_row_of found.test) (rows_of events) = subst (λ n. 0 < n) (sym (parts_count events found.test)) some in
    subst (HasRow (rows_of events)) found.id_is (row_among found.test (rows_of events) (counted_any (is_row_of found.test) (rows_of events) counted))

-- ---- no test of a job is lost

all_rows : (lane : ℕ) (events list : List Event) (ids : List (List ℕ)) → of_lane lane events ≡ list → AllByRecursion (λ id. list_any (is_of_id id) list ≡ true) ids → AllByRecursion (HasRow (rows_of events)) ids
all_rows lane events list [] is all = tt
all_rows lane events list (id ∷ ids) is all = (
  has_row id events (any_kept (is_of_id id) (is_of_lane lane) events (ap (list_any (is_of_id id)) is ∙ all.0)),
  all_rows lane events list ids is all.1,
)

-- ids that can be named are all that are
all_named : (ids : List (List ℕ)) → AreShort ids → named_ids ids ≡ ids
all_named ids short = filter_all (λ id. nat_le (length id) longest_id) ids (All-weaker (λ id. length id ≤ longest_id) (λ id. nat_le (length id) longest_id ≡ true) (λ id few. le-leb (length id) 65536 few) ids short)

first_short : (asked : List (List (List ℕ))) → AreAllShort asked → AreShort (first_ids asked)
first_short [] short = All-nil (λ id. length id ≤ longest_id)
first_short (ids ∷ others) short = All-head AreShort ids others short

others_short : (asked : List (List (List ℕ))) → AreAllShort asked → AreAllShort (other_ids asked)
others_short [] short = All-nil AreShort
others_short (ids ∷ others) short = All-tail AreShort ids others short

loses_none_by : (lane : ℕ) (events : List Event) (ids : List (List ℕ)) (output : Output) → AreShort ids → of_lane lane events ≡ events_asked lane ids output → (ending_of output.finish ≡ Exit (pos 0) → ⊥) → (ending_of output.finish ≡ NoMemory → ⊥) → AllByRecursion (HasRow (rows_of events)) ids
loses_none_by lane events ids output short is other memory =
    subst (AllByRecursion (HasRow (rows_of events))) (all_named ids short) (all_rows lane events (events_asked lane ids output) (named_ids ids) is
    (named lane (named_ids ids) (stream_events lane output.bytes) (ending_of output.finish) other memory))

loses_none : (lane : ℕ) (events : List Event) (ids : List (List ℕ)) (output : Output) (how : Finish) → output.finish ≡ how → AreShort ids → of_lane lane events ≡ events_asked lane ids output → LosesNone (rows_of events) ids output
loses_none lane events ids output (finish.Exit (pos zero)) how short is = inl how
loses_none lane events ids output (finish.Exit (pos (suc n))) how short is = inr (loses_none_by lane events ids output short is (λ e. let never : Exit (pos (suc n)) ≡ Exit (pos 0) = ap ending_of (sym how) ∙ e in cc) (λ e. let never : Exit (pos (suc n)) ≡ NoMemory = ap ending_of (sym how) ∙ e in cc))
loses_none lane events ids output (finish.Exit (negsuc n)) how short is = inr (loses_none_by lane events ids output short is (λ e. let never : Exit (negsuc n) ≡ Exit (pos 0) = ap ending_of (sym how) ∙ e in cc) (λ e. let never : Exit (negsuc n) ≡ NoMemory = ap ending_of (sym how) ∙ e in cc))
loses_none lane events ids output finish.ReadFault how short is = inr (loses_none_by lane events ids output short is (λ e. let never : Fault ≡ Exit (pos 0) = ap ending_of (sym how) ∙ e in cc) (λ e. let never : Fault ≡ NoMemory = ap ending_of (sym how) ∙ e in cc))
loses_none lane events ids output finish.WaitFault how short is = inr (loses_none_by lane events ids output short is (λ e. let never : Fault ≡ Exit (pos 0) = ap ending_of (sym how) ∙ e in cc) (λ e. let never : Fault ≡ NoMemory = ap ending_of (sym how) ∙ e in cc))

lose_none : (lane : ℕ) (events : List Event) (asked : List (List (List ℕ))) (outputs : List Output) → AreAllShort asked → ((place : ℕ) → place < length (lists_asked lane asked outputs) → of_lane (lane + place) events ≡ slice_index_or (lists_asked lane asked outputs) place []) → LoseNone (rows_of events) asked outputs
lose_none lane events asked [] short each = tt
lose_none lane events asked (output ∷ outputs) short each =
    let here : lane + 0 ≡ lane = omega arith in (
      loses_none lane events (first_ids asked) output output.finish refl (first_short asked short) (ap (λ n. of_lane n events) (sym here) ∙ each 0 (omega arith)),
      lose_none (suc lane) events (other_ids asked) outputs (others_short asked short) (λ place below.
          let next : suc lane + place ≡ lane + suc place = omega arith in
          ap (λ n. of_lane n events) next ∙ each (suc place) (omega (arith, below))),
    )

pub none_lost : (events : List Event) (asked : List (List (List ℕ))) (outputs : List Output) → AreAllShort asked → IsMerge events (lists_asked 0 asked outputs) → LoseNone (rows_of events) asked outputs
none_lost events asked outputs short merge = lose_none 0 events asked outputs short (λ place below.
    let here : 0 + place ≡ place = omega arith in
    ap (λ n. of_lane n events) here ∙ merge.each place below)
