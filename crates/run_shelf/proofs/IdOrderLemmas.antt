-- Texts in order, and one more behind them.
use Rattle.std.proofs.Common.{◌≡◌, ℕ, suc, ◌-◌, Bool, true≢false, IsTrue, List, [], ◌∷◌, ◌++◌, Option, Some, None, length, refl, sym, ap, ◌∙◌, subst, arith}
use Rattle.std.specs.Prelude.{slice_get}
use Rattle.std.specs.Ordering.{is_lt, nat_cmp}
use Rattle.std.specs.List.{AllByRecursion}
use Rattle.std.specs.List.Sorted.{IsStrictlySortedBy}
use Rattle.std.specs.declared.cmp.Ordering.{Ordering}
use Rattle.std.specs.declared.cmp.Ordering.TheVariants.{Less, Equal, Greater}
use Rattle.std.specs.Cmp.Lexicographic.{slice_cmp}
use Rattle.std.proofs.lemmas.Cmp.{nat_list_cmp_total}

unfoldable pub last_of_ids : List (List ℕ) → Option (List ℕ)
last_of_ids [] = None
last_of_ids (x ∷ []) = Some x
last_of_ids (x ∷ y ∷ ids) = last_of_ids (y ∷ ids)

last_is : (ids : List (List ℕ)) → slice_get ids (length ids - 1) ≡ last_of_ids ids
unfolding last_of_ids
last_is [] = refl
last_is (x ∷ []) = let one : length (x ∷ []) - 1 ≡ 0 = omega arith in ap (slice_get (x ∷ [])) one
last_is (x ∷ y ∷ ids) =
    let next : length (x ∷ y ∷ ids) - 1 ≡ suc (length (y ∷ ids) - 1) = omega arith in
    ap (slice_get (x ∷ y ∷ ids)) next ∙ last_is (y ∷ ids)

some_same : (a b : List ℕ) → Some a ≡ Some b → a ≡ b
some_same a b e = cc

less_than_last : (x : List ℕ) (ids : List (List ℕ)) (last : List ℕ) → AllByRecursion (λ y. slice_cmp nat_cmp x y ≡ Less) ids → last_of_ids ids ≡ Some last → slice_cmp nat_cmp x last ≡ Less
unfolding last_of_ids
less_than_last x [] last all is = cc
less_than_last x (y ∷ []) last all is = subst (λ (l : List ℕ). slice_cmp nat_cmp x l ≡ Less) (some_same y last is) all.0
less_than_last x (y ∷ z ∷ ids) last all is = less_than_last x (z ∷ ids) last all.1 is

all_push : (x : List ℕ) (ids : List (List ℕ)) (id : List ℕ) → AllByRecursion (λ y. slice_cmp nat_cmp x y ≡ Less) ids → slice_cmp nat_cmp x id ≡ Less → AllByRecursion (λ y. slice_cmp nat_cmp x y ≡ Less) (ids ++ id ∷ [])
all_push x [] id all less = (less, tt)
all_push x (y ∷ ids) id all less = (all.0, all_push x ids id all.1 less)

pub sorted_push : (ids : List (List ℕ)) (id last : List ℕ) → IsStrictlySortedBy (slice_cmp nat_cmp) ids → last_of_ids ids ≡ Some last → slice_cmp nat_cmp last id ≡ Less → IsStrictlySortedBy (slice_cmp nat_cmp) (ids ++ id ∷ [])
unfolding last_of_ids IsStrictlySortedBy
sorted_push [] id last sorted is less = cc
sorted_push (x ∷ []) id last sorted is less = ((subst (λ (l : List ℕ). slice_cmp nat_cmp l id ≡ Less) (sym (some_same x last is)) less, tt), (tt, tt))
sorted_push (x ∷ y ∷ ids) id last sorted is less =
    let below : slice_cmp nat_cmp x last ≡ Less = less_than_last x (y ∷ ids) last sorted.0 is in
    (all_push x (y ∷ ids) id sorted.0 (nat_list_cmp_total.trans x last id below less), sorted_push (y ∷ ids) id last sorted.1 is less)

pub sorted_last : (ids : List (List ℕ)) (id last : List ℕ) → IsStrictlySortedBy (slice_cmp nat_cmp) (ids ++ id ∷ []) → last_of_ids ids ≡ Some last → slice_cmp nat_cmp last id ≡ Less
unfolding last_of_ids IsStrictlySortedBy
sorted_last [] id last sorted is = cc
sorted_last (x ∷ []) id last sorted is = subst (λ (l : List ℕ). slice_cmp nat_cmp l id ≡ Less) (some_same x last is) sorted.0.0
sorted_last (x ∷ y ∷ ids) id last sorted is = sorted_last (y ∷ ids) id last sorted.1 is

less_is : (o : Ordering) → IsTrue (is_lt o) → o ≡ Less
less_is Less is = refl
less_is Equal is = absurd (true≢false (sym is))
less_is Greater is = absurd (true≢false (sym is))

pub behind_last : (ids : List (List ℕ)) (id last : List ℕ) (answer : Bool) → IsStrictlySortedBy (slice_cmp nat_cmp) ids → slice_get ids (length ids - 1) ≡ Some last → answer ≡ is_lt (slice_cmp nat_cmp last id)
    → (IsTrue answer → IsStrictlySortedBy (slice_cmp nat_cmp) (ids ++ id ∷ [])) × (IsStrictlySortedBy (slice_cmp nat_cmp) (ids ++ id ∷ []) → IsTrue answer)
behind_last ids id last answer sorted is answer-is =
    let at : last_of_ids ids ≡ Some last = sym (last_is ids) ∙ is in (
      (λ yes. sorted_push ids id last sorted at (less_is (slice_cmp nat_cmp last id) (subst IsTrue answer-is yes))),
      (λ all. subst IsTrue (sym (answer-is ∙ ap is_lt (sorted_last ids id last all at))) refl),
    )

pub empty_of : (ids : List (List ℕ)) → last_of_ids ids ≡ None → ids ≡ []
unfolding last_of_ids
empty_of [] none = refl
empty_of (x ∷ []) none = cc
empty_of (x ∷ y ∷ ids) none = absurd (omega (arith, ap length (empty_of (y ∷ ids) none)))

pub behind_none : (ids : List (List ℕ)) (id : List ℕ) → slice_get ids (length ids - 1) ≡ None → IsStrictlySortedBy (slice_cmp nat_cmp) (ids ++ id ∷ [])
unfolding IsStrictlySortedBy
behind_none ids id none = subst (λ (l : List (List ℕ)). IsStrictlySortedBy (slice_cmp nat_cmp) (l ++ id ∷ [])) (sym (empty_of ids (sym (last_is ids) ∙ none))) (tt, tt)
