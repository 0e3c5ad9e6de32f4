-- The first of repeated ids.
use Rattle.std.proofs.Common.{◌≡◌, ℕ, Bool, true, false, not, ◌||◌, cond, List, [], ◌∷◌, ◌++◌, refl, sym, ap, ◌∙◌, subst}
use Rattle.std.specs.Ordering.{eq_by_cmp}
use Rattle.std.specs.List.{AllByRecursion, IsDistinct, filter}
use Rattle.std.specs.Str.{bytes_eq}
use Rattle.std.proofs.lemmas.List.Elements.{filter-append}
use Rattle.std.proofs.lemmas.Cmp.{nat_list_cmp_total}
use Rattle.std.specs.Cmp.{eq_by_cmp_equiv}
use Rattle.std.proofs.lemmas.Map.Text.{is_eq-slice_cmp}
use Rattle.outcome_fold.specs.Order.{text_cmp, among, without, in_byte_order}
use Rattle.outcome_fold.proofs.TableLemmas.{tied_is, any_push}
use Rattle.outcome_fold.proofs.OrderLemmas.{exact_texts}
use Rattle.outcome_fold.proofs.SetLemmas.{same_order, among_order, order_push}
use Rattle.suite_plan.specs.Firsts.{firsts}
use Rattle.suite_plan.specs.FirstIds.{HasFirsts}
use Rattle.suite_plan.specs.declared.first_ids.FirstIds.{FirstIds}

-- ---- one id more

-- the id, where it is not taken out
without_one : (x id : List ℕ) (out : Bool) → filter (λ text. not (among (x ∷ []) text)) (cond (not out) (id ∷ []) []) ≡ cond (not (eq_by_cmp text_cmp id x || out)) (id ∷ []) []
without_one x id true = elim (eq_by_cmp text_cmp id x) as (λ e. [] ≡ cond (not (e || true)) (id ∷ []) []) [ true ↦ refl | false ↦ refl ]
without_one x id false = refl

firsts_push : (ids : List (List ℕ)) (id : List ℕ) → firsts (ids ++ id ∷ []) ≡ firsts ids ++ cond (not (among ids id)) (id ∷ []) []
firsts_push [] id = refl
firsts_push (x ∷ ids) id =
    ap (λ l. x ∷ without l (x ∷ [])) (firsts_push ids id)
    ∙ ap (λ l. x ∷ l) (filter-append (λ text. not (among (x ∷ []) text)) (firsts ids) (cond (not (among ids id)) (id ∷ []) []))
    ∙ ap (λ l. x ∷ (without (firsts ids) (x ∷ []) ++ l)) (without_one x id (among ids id))

nothing_behind : (l : List (List ℕ)) → l ++ [] ≡ l
nothing_behind [] = refl
nothing_behind (x ∷ l) = ap (λ m. x ∷ m) (nothing_behind l)

-- it came before
pub firsts_old : (ids : List (List ℕ)) (id : List ℕ) → among ids id ≡ true → firsts (ids ++ id ∷ []) ≡ firsts ids
firsts_old ids id is = firsts_push ids id ∙ ap (λ b. firsts ids ++ cond (not b) (id ∷ []) []) is ∙ nothing_behind (firsts ids)

pub firsts_new : (ids : List (List ℕ)) (id : List ℕ) → among ids id ≡ false → firsts (ids ++ id ∷ []) ≡ firsts ids ++ id ∷ []
firsts_new ids id is = firsts_push ids id ∙ ap (λ b. firsts ids ++ cond (not b) (id ∷ []) []) is

-- the same are among them
order_old : (ids : List (List ℕ)) (id : List ℕ) → among ids id ≡ true → in_byte_order ids ≡ in_byte_order (ids ++ id ∷ [])
order_old ids id is = same_order ids (ids ++ id ∷ []) (λ q. has q (eq_by_cmp text_cmp q id) refl ∙ sym (any_push (eq_by_cmp text_cmp q) ids id))
  where
    has : (q : List ℕ) (tie : Bool) → eq_by_cmp text_cmp q id ≡ tie → among ids q ≡ cond tie true (among ids q)
    has q true tie = ap (among ids) (tied_is exact_texts q id tie) ∙ is
    has q false tie = refl

-- what came before came so by the set
among_seen : (found : FirstIds) (ids : List (List ℕ)) (id : List ℕ) (b : Bool) → HasFirsts found ids → b ≡ among found.seen id → among ids id ≡ b
among_seen found ids id b has is = sym (is ∙ ap (λ seen. among seen id) has.seen_are ∙ among_order ids id)

pub has_none : (found : FirstIds) → found.ids ≡ [] → found.seen ≡ [] → in_byte_order [] ≡ [] → HasFirsts found []
has_none found ids seen none = record { ids_are = ids; seen_are = seen ∙ sym none }

pub has_old : (found : FirstIds) (ids : List (List ℕ)) (id : List ℕ) → true ≡ among found.seen id → HasFirsts found ids → HasFirsts found (ids ++ id ∷ [])
has_old found ids id is has =
    let there : among ids id ≡ true = among_seen found ids id true has is in
    record { ids_are = has.ids_are ∙ sym (firsts_old ids id there); seen_are = has.seen_are ∙ order_old ids id there }

pub has_new : (found new : FirstIds) (ids : List (List ℕ)) (id : List ℕ) → false ≡ among found.seen id
    → new.seen ≡ in_byte_order (id ∷ found.seen) → new.ids ≡ found.ids ++ id ∷ [] → HasFirsts found ids → HasFirsts new (ids ++ id ∷ [])
has_new found new ids id is seen pushed has =
    let away : among ids id ≡ false = among_seen found ids id false has is in
    record {
      ids_are = pushed ∙ ap (λ l. l ++ id ∷ []) has.ids_are ∙ sym (firsts_new ids id away);
      seen_are = seen ∙ ap (λ l. in_byte_order (id ∷ l)) has.seen_are ∙ order_push ids id;
    }

-- ---- each id stands once

all_filtered : (P : List ℕ → Type 0) (p : List ℕ → Bool) (xs : List (List ℕ)) → AllByRecursion P xs → AllByRecursion P (filter p xs)
all_filtered P p [] all = tt
all_filtered P p (x ∷ xs) all = elim (p x) as (λ b. AllByRecursion P (cond b (x ∷ filter p xs) (filter p xs))) [ true ↦ (all.0, all_filtered P p xs all.1) | false ↦ all_filtered P p xs all.1 ]

pub distinct_filtered : (p : List ℕ → Bool) (xs : List (List ℕ)) → IsDistinct bytes_eq xs → IsDistinct bytes_eq (filter p xs)
unfolding IsDistinct
distinct_filtered p [] distinct = tt
distinct_filtered p (x ∷ xs) distinct = elim (p x) as (λ b. IsDistinct bytes_eq (cond b (x ∷ filter p xs) (filter p xs))) [
  | true ↦ (all_filtered (λ y. bytes_eq x y ≡ false) p xs distinct.0, distinct_filtered p xs distinct.1)
  | false ↦ distinct_filtered p xs distinct.1
]

-- an id that is not taken out is another
apart : (x y : List ℕ) → not (among (x ∷ []) y) ≡ true → bytes_eq x y ≡ false
apart x y kept = sym (is_eq-slice_cmp x y) ∙ (eq_by_cmp_equiv nat_list_cmp_total).symm x y ∙ other (eq_by_cmp text_cmp y x) kept
  where
    other : (e : Bool) → not (e || false) ≡ true → e ≡ false
    other true is = absurd cc
    other false is = refl

others_apart : (x : List ℕ) (ids : List (List ℕ)) → AllByRecursion (λ y. bytes_eq x y ≡ false) (without ids (x ∷ []))
others_apart x [] = tt
others_apart x (y ∷ ids) = first_apart x y (without ids (x ∷ [])) (others_apart x ids) (not (among (x ∷ []) y)) refl
  where
    first_apart : (x y : List ℕ) (rest : List (List ℕ)) → AllByRecursion (λ y. bytes_eq x y ≡ false) rest → (b : Bool) → not (among (x ∷ []) y) ≡ b → AllByRecursion (λ y. bytes_eq x y ≡ false) (cond b (y ∷ rest) rest)
    first_apart x y rest all true is = (apart x y is, all)
    first_apart x y rest all false is = all

pub firsts_distinct : (ids : List (List ℕ)) → IsDistinct bytes_eq (firsts ids)
unfolding IsDistinct
firsts_distinct [] = tt
firsts_distinct (id ∷ ids) = (others_apart id (firsts ids), distinct_filtered (λ text. not (among (id ∷ []) text)) (firsts ids) (firsts_distinct ids))

-- ids of which each stands once are theirs
kept_apart : (x y : List ℕ) → bytes_eq x y ≡ false → not (among (x ∷ []) y) ≡ true
kept_apart x y is = ap (λ e. not (e || false)) (sym ((eq_by_cmp_equiv nat_list_cmp_total).symm x y) ∙ is_eq-slice_cmp x y ∙ is)

none_out : (x : List ℕ) (ids : List (List ℕ)) → AllByRecursion (λ y. bytes_eq x y ≡ false) ids → without ids (x ∷ []) ≡ ids
none_out x [] all = refl
none_out x (y ∷ ids) all = ap (λ b. cond b (y ∷ without ids (x ∷ [])) (without ids (x ∷ []))) (kept_apart x y all.0) ∙ ap (λ l. y ∷ l) (none_out x ids all.1)

pub firsts_same : (ids : List (List ℕ)) → IsDistinct bytes_eq ids → firsts ids ≡ ids
unfolding IsDistinct
firsts_same [] distinct = refl
firsts_same (id ∷ ids) distinct = ap (λ l. id ∷ without l (id ∷ [])) (firsts_same ids distinct.1) ∙ ap (λ l. id ∷ l) (none_out id ids distinct.0)

pub has_distinct : (found : FirstIds) (ids : List (List ℕ)) → HasFirsts found ids → IsDistinct bytes_eq found.ids
has_distinct found ids has = subst (IsDistinct bytes_eq) (sym has.ids_are) (firsts_distinct ids)
