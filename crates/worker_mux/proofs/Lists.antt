-- Lemmas on lists and functions.
use Rattle.std.proofs.Common.{◌≡◌, ◌≢◌, ℕ, zero, suc, ◌+◌, ◌<◌, eqb, cond, length, List, [], ◌∷◌, ◌++◌, map, sym, ◌∙◌, ap, arith}
use Rattle.std.specs.List.{AllByRecursion, flat_map, range_with_len}
use Rattle.std.proofs.lemmas.Bool.Decides.{nat_tests}
use Rattle.std.proofs.lemmas.List.{map-append, length-append, flat_map_more}
use mathlib.Core.Option.{some, some-ne-none}
use lib.ListN.{get_elem?}

-- a function with another value at one number
abbrev pub changed_at : {X : Type 0} → (ℕ → X) → ℕ → X → ℕ → X
changed_at f n x m = cond (eqb m n) x (f m)

pub changed_here : {X : Type 0} (f : ℕ → X) (n : ℕ) (x : X) → changed_at f n x n ≡ x
changed_here f n x = grind (arith, nat_tests)

pub changed_else : {X : Type 0} (f : ℕ → X) (n : ℕ) (x : X) (m : ℕ) → m ≢ n → changed_at f n x m ≡ f m
changed_else f n x m other = grind (arith, nat_tests)

-- where there is an element, the list is longer
pub below : {X : Type 0} (l : List X) (i : ℕ) (x : X) → get_elem? l i ≡ some x → i < length l
below [] i x e = absurd (some-ne-none x (sym e))
below (y ∷ ys) zero x e = omega arith
below (y ∷ ys) (suc i) x e = let shorter = below ys i x e in omega arith

pub all_more : {X : Type 0} (P : X → Type 0) (xs : List X) (x : X) → AllByRecursion P xs → P x → AllByRecursion P (xs ++ x ∷ [])
all_more P [] x all last = (last, tt)
all_more P (y ∷ ys) x all last = (all.0, all_more P ys x all.1 last)

range_more : (a n : ℕ) → range_with_len a (suc n) ≡ range_with_len a n ++ (a + n) ∷ []
range_more a zero = ap (λ k. k ∷ []) (omega arith)
range_more a (suc n) = ap (λ l. a ∷ l) (range_more (a + 1) n ∙ ap (λ k. range_with_len (a + 1) n ++ k ∷ []) (omega arith))

pub numbers_more : {X : Type 0} (f : X → ℕ) (xs : List X) (x : X) (n : ℕ) → map f xs ≡ range_with_len 0 n → f x ≡ n → map f (xs ++ x ∷ []) ≡ range_with_len 0 (n + 1)
numbers_more f xs x n so_far last =
    map-append f xs (x ∷ []) ∙ ap (λ l. l ++ f x ∷ []) so_far ∙ ap (λ k. range_with_len 0 n ++ k ∷ []) (plain n (f x) last) ∙ sym (range_more 0 n) ∙ ap (λ k. range_with_len 0 k) (one n)
  where
    plain : (n k : ℕ) → k ≡ n → k ≡ 0 + n
    plain n k same = omega arith

    one : (n : ℕ) → suc n ≡ n + 1
    one n = omega arith

-- one lane more, with the next number
pub numbers_push : {X : Type 0} (f : X → ℕ) (xs : List X) (x : X) → map f xs ≡ range_with_len 0 (length xs) → f x ≡ length xs → map f (xs ++ x ∷ []) ≡ range_with_len 0 (length (xs ++ x ∷ []))
numbers_push f xs x so_far last = numbers_more f xs x (length xs) so_far last ∙ ap (range_with_len 0) (longer (length xs) (length (xs ++ x ∷ [])) (length-append xs (x ∷ [])))
  where
    longer : (n m : ℕ) → m ≡ n + 1 → n + 1 ≡ m
    longer n m is = omega (arith, is)

-- pieces joined, and one piece more
pub one_piece_more : (bytes piece : List ℕ) (pieces : List (List ℕ)) → bytes ≡ flat_map (λ p. p) pieces → bytes ++ piece ≡ flat_map (λ p. p) (pieces ++ piece ∷ [])
one_piece_more bytes piece pieces so_far = ap (λ l. l ++ piece) so_far ∙ flat_map_more (λ p. p) [] pieces piece
