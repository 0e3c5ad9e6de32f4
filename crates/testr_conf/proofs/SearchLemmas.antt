-- The place that a search for bytes answers.
use Rattle.std.proofs.Common.{◌≡◌, ◌<◌, ◌+◌, ℕ, Bool, true, false, not, cond, List, [], ◌∷◌, Option, Some, None, length, get_or, MatchOption, refl, sym, subst, ◌∙◌, ⊎_elim, arith}
use Rattle.std.specs.List.{position_or_len, list_any}
use Rattle.std.proofs.lemmas.List.Sums.{position_or_len_is}
use Rattle.std.proofs.lemmas.Bool.{false_from_ne_true, cases_Bool, or_left, or_right, or_from}
use Rattle.memchr.specs.Find.{IsFirstByte}

-- it is that of the first byte that passes, and there is none where no byte does; p and q are the same test
pub IsFirstByte-place : (p q : ℕ → Bool) → ((b : ℕ) → p b ≡ q b) → (hay : List ℕ) (r : Option ℕ) → IsFirstByte p hay r
    → MatchOption r (position_or_len q hay ≡ length hay) (λ k. (k ≡ position_or_len q hay) × (k < length hay))
IsFirstByte-place p q same hay None h =
    position_or_len_is q hay (length hay) 0 (omega arith)
    (λ k below. false_from_ne_true (q (get_or hay k 0)) (λ passes. h k (omega arith) below (same (get_or hay k 0) ∙ passes)))
    (λ past. absurd (omega arith))
IsFirstByte-place p q same hay (Some k) h =
    let first = h.0 in (
      sym (position_or_len_is q hay k 0 (omega (arith, first.high))
          (λ j below. false_from_ne_true (q (get_or hay j 0)) (λ passes. first.before j (omega arith) below (same (get_or hay j 0) ∙ passes)))
          (λ _. sym (same (get_or hay k 0)) ∙ h.1)),
      first.high,
    )

module _ {X : Type 0} (p : X → Bool) where
  -- where the place is the list's length, no element passes
  pub any_none : (xs : List X) → position_or_len p xs ≡ length xs → list_any p xs ≡ false
  any_none [] e = refl
  any_none (x ∷ xs) e =
      ⊎_elim
      (λ yes. let bad : cond (not true) (1 + position_or_len p xs) 0 ≡ length (x ∷ xs) = subst (λ b. cond (not b) (1 + position_or_len p xs) 0 ≡ length (x ∷ xs)) yes e in
      absurd (omega arith))
      (λ no. let next : cond (not false) (1 + position_or_len p xs) 0 ≡ length (x ∷ xs) = subst (λ b. cond (not b) (1 + position_or_len p xs) 0 ≡ length (x ∷ xs)) no e in
      or_from (p x) (list_any p xs) no (any_none xs (omega arith)))
      (cases_Bool (p x))

  -- where it is below, some element does
  pub any_some : (xs : List X) → position_or_len p xs < length xs → list_any p xs ≡ true
  any_some [] lt = absurd (omega arith)
  any_some (x ∷ xs) lt =
      ⊎_elim
      (λ yes. or_left (p x) (list_any p xs) yes)
      (λ no. let next : cond (not false) (1 + position_or_len p xs) 0 < length (x ∷ xs) = subst (λ b. cond (not b) (1 + position_or_len p xs) 0 < length (x ∷ xs)) no lt in
      or_right (p x) (list_any p xs) (any_some xs (omega arith)))
      (cases_Bool (p x))
