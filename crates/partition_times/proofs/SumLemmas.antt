-- Sums over lists that are cut into parts.
use Rattle.std.proofs.Common.{◌≡◌, ℕ, ◌+◌, ◌*◌, ◌||◌, Bool, true, false, cond, List, [], ◌∷◌, refl, sym, ◌∙◌, ap, ap₂, arith, true≢false}
use Rattle.std.specs.List.{AllByRecursion, IsDistinct, filter, list_any, sum_by, count_by}
use Rattle.std.specs.Cmp.{IsEquivalence}
use Rattle.std.proofs.lemmas.List.Sums.{sum_by-cons}
use mathlib.Core.Path.{fun_ext}

module _ {X : Type 0} where
  pub sum_same : (f g : X → ℕ) (xs : List X) → ((x : X) → f x ≡ g x) → sum_by f xs ≡ sum_by g xs
  sum_same f g xs same = ap (λ h. sum_by h xs) (fun_ext same)

  pub sum_none : (xs : List X) → sum_by (λ x. 0) xs ≡ 0
  sum_none [] = refl
  sum_none (x ∷ xs) = omega (arith, sum_by-cons (λ (x : X). 0) x xs, sum_none xs)

  pub sum_add : (f g : X → ℕ) (xs : List X) → sum_by (λ x. f x + g x) xs ≡ sum_by f xs + sum_by g xs
  sum_add f g [] = refl
  sum_add f g (x ∷ xs) = omega (arith, sum_by-cons (λ x. f x + g x) x xs, sum_by-cons f x xs, sum_by-cons g x xs, sum_add f g xs)

  pub sum_if : (p : X → Bool) (c : ℕ) (xs : List X) → count_by p xs ≡ 1 → sum_by (λ x. cond (p x) c 0) xs ≡ c
  sum_if p c xs one = several xs ∙ ap (λ n. n * c) one ∙ (let itself : 1 * c ≡ c = omega arith in itself)
    where
      term : (b : Bool) (n : ℕ) → cond b c 0 + n * c ≡ (cond b 1 0 + n) * c
      term true n = omega arith
      term false n = omega arith

      several : (xs : List X) → sum_by (λ x. cond (p x) c 0) xs ≡ count_by p xs * c
      several [] = omega arith
      several (x ∷ xs) = sum_by-cons (λ x. cond (p x) c 0) x xs ∙ ap (λ n. cond (p x) c 0 + n) (several xs) ∙ term (p x) (count_by p xs) ∙ ap (λ n. n * c) (sym (sum_by-cons (λ x. cond (p x) 1 0) x xs))

  -- a key that stands there, among keys that differ, stands there once
  pub stands_once : (eq : X → X → Bool) → IsEquivalence eq → (q : X) (keys : List X) → IsDistinct eq keys → list_any (eq q) keys ≡ true → count_by (eq q) keys ≡ 1
  unfolding IsDistinct
  stands_once eq laws q [] distinct some = absurd (true≢false (sym some))
  stands_once eq laws q (key ∷ keys) distinct some =
      elim (eq q key) as (λ b. eq q key ≡ b → (b || list_any (eq q) keys) ≡ true → count_by (eq q) (key ∷ keys) ≡ 1) [
        | true ↦ λ is some. sum_by-cons (λ k. cond (eq q k) 1 0) key keys ∙ ap₂ ◌+◌ (ap (λ b. cond b 1 0) is) (none_behind is keys distinct.0)
        | false ↦ λ is some. sum_by-cons (λ k. cond (eq q k) 1 0) key keys ∙ ap₂ ◌+◌ (ap (λ b. cond b 1 0) is) (stands_once eq laws q keys distinct.1 some)
      ] refl some
    where
      none_behind : eq q key ≡ true → (others : List X) → AllByRecursion (λ other. eq key other ≡ false) others → count_by (eq q) others ≡ 0
      none_behind is [] apart = refl
      none_behind is (other ∷ others) apart = sum_by-cons (λ k. cond (eq q k) 1 0) other others ∙ ap₂ ◌+◌ (ap (λ b. cond b 1 0) (laws.congr q key other is ∙ apart.0)) (none_behind is others apart.1)

-- where each element belongs to one of the keys, the sums by key make up the sum of all
pub sum_of_parts : {J X : Type 0} (belongs : J → X → Bool) (h : X → ℕ) (keys : List J) (xs : List X) → AllByRecursion (λ x. count_by (λ key. belongs key x) keys ≡ 1) xs → sum_by (λ key. sum_by h (filter (belongs key) xs)) keys ≡ sum_by h xs
sum_of_parts belongs h keys [] all = sum_none keys
sum_of_parts belongs h keys (x ∷ xs) all =
    sum_same (λ key. sum_by h (filter (belongs key) (x ∷ xs))) (λ key. cond (belongs key x) (h x) 0 + sum_by h (filter (belongs key) xs)) keys (λ key. one (belongs key x) (filter (belongs key) xs))
    ∙ sum_add (λ key. cond (belongs key x) (h x) 0) (λ key. sum_by h (filter (belongs key) xs)) keys
    ∙ ap₂ ◌+◌ (sum_if (λ key. belongs key x) (h x) keys all.0) (sum_of_parts belongs h keys xs all.1)
    ∙ sym (sum_by-cons h x xs)
  where
    one : (b : Bool) (rest : List _) → sum_by h (cond b (x ∷ rest) rest) ≡ cond b (h x) 0 + sum_by h rest
    one true rest = sum_by-cons h x rest
    one false rest = omega arith
