-- Filters, one after another.
use Rattle.std.proofs.Common.{◌≡◌, Bool, true, false, true≢false, cond, List, [], ◌∷◌, refl, sym, ◌∙◌, ap}
use Rattle.std.specs.List.{All, filter}
use Rattle.std.proofs.lemmas.List.Elements.{All-head, All-tail}

-- a test that is not true is false
pub not_true : (b : Bool) → (b ≡ true → ⊥) → b ≡ false
not_true true never = absurd (never refl)
not_true false never = refl

module _ {A : Type 0} (p : A → Bool) where
  pub filter_all : (xs : List A) → All (λ x. p x ≡ true) xs → filter p xs ≡ xs
  filter_all [] all = refl
  filter_all (x ∷ xs) all = ap (λ b. cond b (x ∷ filter p xs) (filter p xs)) (All-head (λ x. p x ≡ true) x xs all) ∙ ap (λ l. x ∷ l) (filter_all xs (All-tail (λ x. p x ≡ true) x xs all))

  pub filter_none : (xs : List A) → All (λ x. p x ≡ false) xs → filter p xs ≡ []
  filter_none [] none = refl
  filter_none (x ∷ xs) none = ap (λ b. cond b (x ∷ filter p xs) (filter p xs)) (All-head (λ x. p x ≡ false) x xs none) ∙ filter_none xs (All-tail (λ x. p x ≡ false) x xs none)

  module _ (r : A → Bool) where
    within_at : (x : A) (xs : List A) (b c : Bool) → p x ≡ b → r x ≡ c → (b ≡ true → c ≡ true) → filter p (filter r xs) ≡ filter p xs → filter p (cond c (x ∷ filter r xs) (filter r xs)) ≡ cond b (x ∷ filter p xs) (filter p xs)
    within_at x xs true true is also more rest = ap (λ b. cond b (x ∷ filter p (filter r xs)) (filter p (filter r xs))) is ∙ ap (λ l. x ∷ l) rest
    within_at x xs true false is also more rest = absurd (true≢false (sym (more refl)))
    within_at x xs false true is also more rest = ap (λ b. cond b (x ∷ filter p (filter r xs)) (filter p (filter r xs))) is ∙ rest
    within_at x xs false false is also more rest = rest

    -- a filter behind one that passes more
    pub filter_within : ((x : A) → p x ≡ true → r x ≡ true) → (xs : List A) → filter p (filter r xs) ≡ filter p xs
    filter_within more [] = refl
    filter_within more (x ∷ xs) = within_at x xs (p x) (r x) refl refl (more x) (filter_within more xs)
