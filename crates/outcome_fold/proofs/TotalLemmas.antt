-- Sums over the values of finite maps.
use Rattle.std.proofs.Common.{◌≡◌, ℕ, ◌+◌, Bool, true, false, ◌&&◌, cond, T, List, [], ◌∷◌, ◌++◌, Option, Some, None, map, refl, ◌∙◌, ap, arith}
use Rattle.std.specs.List.{sum_by, flat_map}
use Rattle.std.specs.FinMap as fin
use Rattle.std.specs.FinMap.{find, put, is_sorted, entries-insert, entries_sorted}
use Rattle.std.specs.FinMap.Entries.{below_all, by_order}
use Rattle.std.specs.Ordering.{is_eq, is_lt}
use Rattle.std.specs.Cmp.{IsTotalOrder}
use Rattle.std.specs.declared.cmp.Ordering.{Ordering}
use Rattle.std.specs.declared.cmp.Ordering.TheVariants.{Less, Equal, Greater}
use Rattle.std.proofs.lemmas.List.Sums.{sum_by-cons}

abbrev pub total : {A : Type 0} → (A → ℕ) → List A → ℕ
total f [] = 0
total f (x ∷ xs) = f x + total f xs

pub total_is : {A : Type 0} (f : A → ℕ) (xs : List A) → sum_by f xs ≡ total f xs
total_is f [] = refl
total_is f (x ∷ xs) = sum_by-cons f x xs ∙ ap (λ n. f x + n) (total_is f xs)

pub total_append : {A : Type 0} (f : A → ℕ) (xs ys : List A) → total f (xs ++ ys) ≡ total f xs + total f ys
total_append f [] ys = omega arith
total_append f (x ∷ xs) ys = omega (arith, total_append f xs ys)

pub total_joined : {A : Type 0} (f : A → ℕ) (groups : List (List A)) → total f (flat_map (λ group. group) groups) ≡ total (total f) groups
total_joined f [] = refl
total_joined f (group ∷ groups) = total_append f group (flat_map (λ group. group) groups) ∙ ap (λ n. total f group + n) (total_joined f groups)

-- what is found adds
abbrev pub of_found : {A : Type 0} → (A → ℕ) → Option A → ℕ
of_found f None = 0
of_found f (Some x) = f x

both_parts : (a b : Bool) → T (a && b) → T a × T b
both_parts true b h = (tt, h)
both_parts false b h = absurd h

less_is : (o : Ordering) → T (is_lt o) → o ≡ Less
less_is Less h = refl
less_is Equal h = absurd h
less_is Greater h = absurd h

module _ {K V : Type 0} {R : K → K → Ordering} (o : IsTotalOrder R) where
  none_under : (k x : K) (es : List (K × V)) → R k x ≡ Less → T (below_all R x es) → find R k es ≡ None
  none_under k x [] less all = refl
  none_under k x (e ∷ es) less all =
      let parts = both_parts (is_lt (R x e.0)) (below_all R x es) all in
      let first : R k e.0 ≡ Less = o.trans k x e.0 less (less_is (R x e.0) parts.0) in
      ap (λ r. cond (is_eq r) (Some e.1) (find R k es)) first ∙ none_under k x es less parts.1

  total_put : (f : V → ℕ) (k : K) (v : V) (es : List (K × V)) → T (is_sorted R es) → total f (map (λ e. e.1) (put R k v es)) + of_found f (find R k es) ≡ total f (map (λ e. e.1) es) + f v
  total_put f k v [] sorted = omega arith
  total_put f k v (e ∷ es) sorted =
      let parts = both_parts (below_all R e.0 es) (is_sorted R es) sorted in
      elim (R k e.0) as (λ r. R k e.0 ≡ r → total f (map (λ e. e.1) (by_order r ((k, v) ∷ e ∷ es) ((e.0, v) ∷ es) (e ∷ put R k v es))) + of_found f (cond (is_eq r) (Some e.1) (find R k es)) ≡ total f (map (λ e. e.1) (e ∷ es)) + f v) [
        | Less ↦ λ p. ap (λ (x : Option V). total f (map (λ e. e.1) ((k, v) ∷ e ∷ es)) + of_found f x) (none_under k e.0 es p parts.0) ∙ omega arith
        | Equal ↦ λ p. omega arith
        | Greater ↦ λ p. omega (arith, total_put f k v es parts.1)
      ] refl

  -- one value more, in place of the one that was found
  pub total_insert : (f : V → ℕ) (m : fin.FinMap R V) (k : K) (v : V) → total f (fin.values (fin.insert m k v)) + of_found f (find R k (fin.entries m)) ≡ total f (fin.values m) + f v
  total_insert f m k v = ap (λ (es : List (K × V)). total f (map (λ e. e.1) es) + of_found f (find R k (fin.entries m))) (entries-insert o m k v) ∙ total_put f k v (fin.entries m) (entries_sorted m)
