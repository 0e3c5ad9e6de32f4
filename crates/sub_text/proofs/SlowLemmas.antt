-- The order of the slowest tests, and lists that are in it.
use Rattle.std.proofs.Common.{◌≡◌, ℕ, suc, ◌+◌, ◌-◌, ◌<◌, ◌≤◌, Bool, true, false, cond, not, List, [], ◌∷◌, ◌++◌, map, take, length, replicate, get_or, refl, sym, ◌∙◌, ap, subst, T, arith, true≢false}
use Rattle.std.specs.FinMap.{IsAntisymmetric, nat_cmp-IsAntisymmetric}
use Rattle.std.specs.Ordering.{nat_cmp, is_lt, is_eq, eq_by_cmp, ordering_then, ordering_reverse}
use Rattle.std.specs.Cmp.{IsTotalOrder, IsStrictWeakOrder, Equal-is, eq_by_cmp_equiv}
use Rattle.std.specs.List.{AllByRecursion, count_by}
use Rattle.std.specs.List.Sorted.{IsPermutation, IsSortedBy}
use Rattle.std.proofs.lemmas.Cmp.{on_total, then_total, back_total, nat_cmp_total}
use Rattle.std.proofs.lemmas.List.Recursion.{is_count_by}
use Rattle.std.proofs.lemmas.List.Sorted.{ranks_by, sorted_far, sum_by-IsPermutation, IsPermutation-map}
use Rattle.std.specs.declared.cmp.Ordering.{Ordering}
use Rattle.std.specs.declared.cmp.Ordering.TheVariants.{Less, Equal, Greater}
use Rattle.outcome_fold.proofs.OrderLemmas.{texts_total, exact_texts, routes_total, exact_routes}
use Rattle.std.proofs.lemmas.List.{take-replicate}
use Rattle.std.specs.Prelude.{codes}
use Rattle.outcome_fold.specs.declared.row.Row.{Row}
use Rattle.sub_text.specs.Texts.{TimedTest, timed_test, slow_cmp, placed_by_time, slowest_first, in_ten_places}

pub slow_total : IsTotalOrder slow_cmp
slow_total = then_total (back_total (on_total (λ t. t.nanos) nat_cmp_total)) (then_total (on_total (λ t. t.id) texts_total) (on_total (λ t. t.route) routes_total))

both_tie : (p q : Ordering) → ordering_then p q ≡ Equal → (p ≡ Equal) × (q ≡ Equal)
both_tie Less q tie = absurd (subst (λ r. T (is_eq r)) (sym tie) tt)
both_tie Equal q tie = (refl, tie)
both_tie Greater q tie = absurd (subst (λ r. T (is_eq r)) (sym tie) tt)

exact_slow : IsAntisymmetric slow_cmp
exact_slow s t tie =
    let both = both_tie (nat_cmp t.nanos s.nanos) _ tie in
    let rest = both_tie _ _ both.1 in
    let times : s.nanos ≡ t.nanos = sym (nat_cmp-IsAntisymmetric t.nanos s.nanos both.0) in
    let ids : s.id ≡ t.id = exact_texts s.id t.id rest.0 in
    let routes : s.route ≡ t.route = exact_routes s.route t.route rest.1 in
    λ i. record { nanos = times i; id = ids i; route = routes i }

abbrev lt : TimedTest → TimedTest → Bool
lt s t = is_lt (slow_cmp s t)

abbrev is_same : TimedTest → TimedTest → Bool
is_same s t = eq_by_cmp slow_cmp s t

orders : IsStrictWeakOrder lt
orders = ranks_by slow_total (λ t. t)

-- none is before the first one
abbrev NoneBefore : TimedTest → List TimedTest → Type 0
NoneBefore t ts = AllByRecursion (λ u. lt u t ≡ false) ts

-- none is before one that stands in front of it
abbrev Ascends : List TimedTest → Type 0
Ascends [] = Unit {0}
Ascends (t ∷ ts) = NoneBefore t ts × Ascends ts

-- how often one stands in a list
abbrev count : TimedTest → List TimedTest → ℕ
count k [] = 0
count k (t ∷ ts) = cond (is_same k t) (1 + count k ts) (count k ts)

-- What `in_order` gives ascends, and has the same elements.

swapped_counts : (b c : Bool) (n : ℕ) → cond b (1 + cond c (1 + n) n) (cond c (1 + n) n) ≡ cond c (1 + cond b (1 + n) n) (cond b (1 + n) n)
swapped_counts true true n = refl
swapped_counts true false n = refl
swapped_counts false true n = refl
swapped_counts false false n = refl

count_placed : (k t : TimedTest) (us : List TimedTest) → count k (placed_by_time t us) ≡ count k (t ∷ us)
count_placed k t [] = refl
count_placed k t (u ∷ us) = elim (lt u t) as (λ b. count k (cond b (u ∷ placed_by_time t us) (t ∷ u ∷ us)) ≡ count k (t ∷ u ∷ us)) [
  | true ↦ ap (λ n. cond (is_same k u) (1 + n) n) (count_placed k t us) ∙ swapped_counts (is_same k u) (is_same k t) (count k us)
  | false ↦ refl
]

count_in_order : (k : TimedTest) (ts : List TimedTest) → count k (slowest_first ts) ≡ count k ts
count_in_order k [] = refl
count_in_order k (t ∷ ts) = count_placed k t (slowest_first ts) ∙ ap (λ n. cond (is_same k t) (1 + n) n) (count_in_order k ts)

none_before_placed : (v t : TimedTest) (us : List TimedTest) → lt t v ≡ false → NoneBefore v us → NoneBefore v (placed_by_time t us)
none_before_placed v t [] one all = (one, tt)
none_before_placed v t (u ∷ us) one all = elim (lt u t) as (λ b. NoneBefore v (cond b (u ∷ placed_by_time t us) (t ∷ u ∷ us))) [
  | true ↦ (all.0, none_before_placed v t us one all.1)
  | false ↦ (one, all)
]

none_before_earlier : (t u : TimedTest) (us : List TimedTest) → lt u t ≡ false → NoneBefore u us → NoneBefore t us
none_before_earlier t u [] order all = tt
none_before_earlier t u (v ∷ us) order all = (orders.chain v u t all.0 order, none_before_earlier t u us order all.1)

placed_at : (t u : TimedTest) (us : List TimedTest) (b : Bool) → lt u t ≡ b → Ascends (u ∷ us) → Ascends (placed_by_time t us) → Ascends (cond b (u ∷ placed_by_time t us) (t ∷ u ∷ us))
placed_at t u us true order all rest = (none_before_placed u t us (orders.one_way u t order) all.0, rest)
placed_at t u us false order all rest = ((order, none_before_earlier t u us order all.0), all)

ascends_placed : (t : TimedTest) (us : List TimedTest) → Ascends us → Ascends (placed_by_time t us)
ascends_placed t [] all = (tt, tt)
ascends_placed t (u ∷ us) all = placed_at t u us (lt u t) refl all (ascends_placed t us all.1)

ascends_in_order : (ts : List TimedTest) → Ascends (slowest_first ts)
ascends_in_order [] = tt
ascends_in_order (t ∷ ts) = ascends_placed t (slowest_first ts) (ascends_in_order ts)

-- Two lists that ascend and have the same elements are one.

different : (k t u : TimedTest) (b : Bool) → is_same k u ≡ b → lt k t ≡ true → lt u t ≡ false → b ≡ false
different k t u false is before behind = refl
different k t u true is before behind = absurd (true≢false (sym before ∙ ap is_lt (slow_total.congr k u t ((Equal-is (slow_cmp k u)).0 is)) ∙ behind))

absent : (k t : TimedTest) (ts : List TimedTest) → lt k t ≡ true → NoneBefore t ts → count k ts ≡ 0
absent k t [] before all = refl
absent k t (u ∷ ts) before all = ap (λ b. cond b (1 + count k ts) (count k ts)) (different k t u (is_same k u) refl before all.0) ∙ absent k t ts before all.1

itself : (t : TimedTest) → lt t t ≡ false
itself t = ap is_lt ((Equal-is (slow_cmp t t)).0 ((eq_by_cmp_equiv slow_total).refl t))

absent_from : (k t : TimedTest) (ts : List TimedTest) → lt k t ≡ true → NoneBefore t ts → count k (t ∷ ts) ≡ 0
absent_from k t ts before all = absent k t (t ∷ ts) before (itself t, all)

present : (t : TimedTest) (ts : List TimedTest) → count t (t ∷ ts) ≡ 1 + count t ts
present t ts = ap (λ b. cond b (1 + count t ts) (count t ts)) ((eq_by_cmp_equiv slow_total).refl t)

not_before : (t u : TimedTest) (ts us : List TimedTest) (b : Bool) → lt t u ≡ b → NoneBefore u us → count t (t ∷ ts) ≡ count t (u ∷ us) → b ≡ false
not_before t u ts us false order all same = refl
not_before t u ts us true order all same =
    let none : count t (t ∷ ts) ≡ 0 = same ∙ absent_from t u us order all in
    let some : count t (t ∷ ts) ≡ 1 + count t ts = present t ts in
    absurd (omega (arith, none, some))

neither : (o : Ordering) (p : Ordering) → o ≡ ordering_reverse p → is_lt o ≡ false → is_lt p ≡ false → o ≡ Equal
neither Less p is behind other = absurd (true≢false behind)
neither Equal p is behind other = refl
neither Greater Less is behind other = absurd (true≢false other)
neither Greater Equal is behind other = absurd (subst (λ (r : Ordering). T (not (is_eq r))) is tt)
neither Greater Greater is behind other = absurd (subst (λ (r : Ordering). T (not (is_lt r))) is tt)

same_first : (t u : TimedTest) (ts us : List TimedTest) → NoneBefore t ts → NoneBefore u us → count t (t ∷ ts) ≡ count t (u ∷ us) → count u (t ∷ ts) ≡ count u (u ∷ us) → t ≡ u
same_first t u ts us first second at_t at_u =
    exact_slow t u (neither (slow_cmp t u) (slow_cmp u t) (slow_total.antisymm t u) (not_before t u ts us (lt t u) refl second at_t) (not_before u t us ts (lt u t) refl first (sym at_u)))

cancelled : (b : Bool) (m n : ℕ) → cond b (1 + m) m ≡ cond b (1 + n) n → m ≡ n
cancelled true m n same = omega arith
cancelled false m n same = same

pub one_order : (ts us : List TimedTest) → Ascends ts → Ascends us → ((k : TimedTest) → count k ts ≡ count k us) → ts ≡ us
one_order [] [] first second same = refl
one_order [] (u ∷ us) first second same =
    let none : 0 ≡ count u (u ∷ us) = same u in
    let some : count u (u ∷ us) ≡ 1 + count u us = present u us in
    absurd (omega (arith, none, some))
one_order (t ∷ ts) [] first second same =
    let none : count t (t ∷ ts) ≡ 0 = same t in
    let some : count t (t ∷ ts) ≡ 1 + count t ts = present t ts in
    absurd (omega (arith, none, some))
one_order (t ∷ ts) (u ∷ us) first second same =
    let one : t ≡ u = same_first t u ts us first.0 second.0 (same t) (same u) in
    let rest : ts ≡ us = one_order ts us first.1 second.1 (λ k. cancelled (is_same k t) (count k ts) (count k us) (same k ∙ ap (λ (v : TimedTest). cond (is_same k v) (1 + count k us) (count k us)) (sym one))) in
    λ i. one i ∷ rest i

-- What a sort gives.

none_before_each : {X : Type 0} (f : X → TimedTest) (t : TimedTest) (xs : List X) → ((k : ℕ) (d : X) → k < length xs → lt (f (get_or xs k d)) t ≡ false) → NoneBefore t (map f xs)
none_before_each f t [] each = tt
none_before_each f t (x ∷ xs) each = (each 0 x (omega arith), none_before_each f t xs (λ k d below. each (suc k) d (omega arith)))

ascends_each : {X : Type 0} (f : X → TimedTest) (xs : List X) → ((i j : ℕ) (d : X) → i ≤ j → j < length xs → lt (f (get_or xs j d)) (f (get_or xs i d)) ≡ false) → Ascends (map f xs)
ascends_each f [] each = tt
ascends_each f (x ∷ xs) each = (
  none_before_each f (f x) xs (λ k d below. each 0 (suc k) d (omega arith) (omega arith)),
  ascends_each f xs (λ i j d order below. each (suc i) (suc j) d (omega arith) (omega arith)),
)

count_is : (k : TimedTest) (ts : List TimedTest) → count k ts ≡ count_by (is_same k) ts
count_is k ts = is_count_by (count k) (is_same k) refl (λ t ts. refl) ts

pub sorted_is : {X : Type 0} (f : X → TimedTest) (xs ys : List X) → IsPermutation xs ys → IsSortedBy (λ x y. lt (f x) (f y)) ys → map f ys ≡ slowest_first (map f xs)
sorted_is f xs ys moved sorted =
    one_order (map f ys) (slowest_first (map f xs))
    (ascends_each f ys (sorted_far (λ x y. lt (f x) (f y)) (ranks_by slow_total f) ys sorted))
    (ascends_in_order (map f xs))
    (λ k. count_is k (map f ys) ∙ sum_by-IsPermutation (λ t. cond (is_same k t) 1 0) (map f xs) (map f ys) (IsPermutation-map f xs ys moved) ∙ sym (count_is k (map f xs)) ∙ sym (count_in_order k (map f xs)))

-- the rows behind some values, as tests with times
pub timed_through : {X : Type 0} (f : X → Row) (xs : List X) → map (λ x. timed_test (f x)) xs ≡ map timed_test (map f xs)
timed_through f [] = refl
timed_through f (x ∷ xs) = ap (λ ts. timed_test (f x) ∷ ts) (timed_through f xs)

-- as many blanks as are wanted, in front
pub padded : (k : ℕ) (text : List ℕ) → k ≡ 10 - length text → take k (codes "          ") ++ text ≡ in_ten_places text
padded k text is =
    ap (λ n. take n (codes "          ") ++ text) is
    ∙ ap (λ l. l ++ text) (take-replicate {X = ℕ} (10 - length text) 10 32 (omega arith))

-- the same in five places
pub padded_five : (k : ℕ) (text : List ℕ) → k ≡ 5 - length text → take k (codes "     ") ++ text ≡ replicate (5 - length text) 32 ++ text
padded_five k text is =
    ap (λ n. take n (codes "     ") ++ text) is
    ∙ ap (λ l. l ++ text) (take-replicate {X = ℕ} (5 - length text) 5 32 (omega arith))
