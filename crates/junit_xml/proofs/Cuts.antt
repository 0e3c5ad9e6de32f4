-- Bytes that are cut at a sign.
use Rattle.std.proofs.Common.{◌≡◌, ℕ, ◌<◌, Bool, true, false, List, [], ◌∷◌, ◌++◌, length, refl, sym, ◌∙◌, ap, arith}
use Rattle.std.specs.Prelude.{not, ◌&&◌, ◌==◌}
use Rattle.std.specs.List.{slice_split, onto_first, list_all, join_with_byte, flat_map}
use Rattle.std.proofs.lemmas.Bool.{and_parts, and_from, not-true, not_from_false, eq-eqb, ne_eqb}
use Rattle.std.proofs.lemmas.List.{append-nil}
use Rattle.std.proofs.lemmas.List.Folds.{list_all-append}
use Rattle.std.proofs.lemmas.List.Splits.{slice_split-cons_yes, slice_split-cons_no, length-slice_split}

-- none of the bytes passes
abbrev pub lacks : (ℕ → Bool) → List ℕ → Bool
lacks p xs = list_all (λ x. not (p x)) xs

-- what passes one test passes a weaker one
pub all_weaker : (p q : ℕ → Bool) → ((x : ℕ) → p x ≡ true → q x ≡ true) → (xs : List ℕ) → list_all p xs ≡ true → list_all q xs ≡ true
all_weaker p q weaker [] all = refl
all_weaker p q weaker (x ∷ xs) all =
    let both = and_parts (p x) (list_all p xs) all in
    and_from (q x) (list_all q xs) (weaker x both.0) (all_weaker p q weaker xs both.1)

-- both parts pass
pub all_both : (p : ℕ → Bool) (xs ys : List ℕ) → list_all p xs ≡ true → list_all p ys ≡ true → list_all p (xs ++ ys) ≡ true
all_both p xs ys first second = list_all-append p xs ys ∙ and_from (list_all p xs) (list_all p ys) first second

-- a byte that is another one
pub is_other : (x y : ℕ) → (x ≡ y → ⊥) → not (x == y) ≡ true
is_other x y apart = not_from_false (x == y) (ne_eqb x y apart)

-- the pieces, with these bytes in front of the first
abbrev pub onto : List ℕ → List (List ℕ) → List (List ℕ)
onto [] pieces = pieces
onto (x ∷ xs) pieces = onto_first x (onto xs pieces)

pub onto_cons : (xs front : List ℕ) (pieces : List (List ℕ)) → onto xs (front ∷ pieces) ≡ (xs ++ front) ∷ pieces
onto_cons [] front pieces = refl
onto_cons (x ∷ xs) front pieces = ap (onto_first x) (onto_cons xs front pieces)

-- bytes in front that are not cut
pub cut_behind : (p : ℕ → Bool) (xs ys : List ℕ) → lacks p xs ≡ true → slice_split p (xs ++ ys) ≡ onto xs (slice_split p ys)
cut_behind p [] ys none = refl
cut_behind p (x ∷ xs) ys none =
    let both = and_parts (not (p x)) (lacks p xs) none in
    slice_split-cons_no p x (xs ++ ys) (not-true (p x) both.0) ∙ ap (onto_first x) (cut_behind p xs ys both.1)

-- the first cut
pub cut_at : (p : ℕ → Bool) (xs : List ℕ) (y : ℕ) (ys : List ℕ) → lacks p xs ≡ true → p y ≡ true → slice_split p (xs ++ y ∷ ys) ≡ xs ∷ slice_split p ys
cut_at p xs y ys none at =
    cut_behind p xs (y ∷ ys) none ∙ ap (onto xs) (slice_split-cons_yes p y ys at) ∙ onto_cons xs [] (slice_split p ys)
    ∙ ap (λ (l : List ℕ). l ∷ slice_split p ys) (append-nil xs)

-- no cut
pub cut_nowhere : (p : ℕ → Bool) (xs : List ℕ) → lacks p xs ≡ true → slice_split p xs ≡ xs ∷ []
cut_nowhere p xs none =
    ap (slice_split p) (sym (append-nil xs)) ∙ cut_behind p xs [] none ∙ onto_cons xs [] [] ∙ ap (λ (l : List ℕ). l ∷ []) (append-nil xs)

-- there is always a piece
pub cut_gives : (p : ℕ → Bool) (xs : List ℕ) → 0 < length (slice_split p xs)
cut_gives p xs = omega (arith, length-slice_split p xs)

-- pieces with a sign between them, cut at it
pub cut_joined : (sign : ℕ) (piece : List ℕ) (pieces : List (List ℕ)) → list_all (lacks (λ b. b == sign)) (piece ∷ pieces) ≡ true
    → slice_split (λ b. b == sign) (join_with_byte sign (piece ∷ pieces)) ≡ piece ∷ pieces
cut_joined sign piece [] none = cut_nowhere (λ b. b == sign) piece (and_parts (lacks (λ b. b == sign) piece) true none).0
cut_joined sign piece (next ∷ pieces) none =
    let both = and_parts (lacks (λ b. b == sign) piece) (list_all (lacks (λ b. b == sign)) (next ∷ pieces)) none in
    cut_at (λ b. b == sign) piece sign (join_with_byte sign (next ∷ pieces)) both.0 (eq-eqb sign sign refl)
    ∙ ap (λ (l : List (List ℕ)). piece ∷ l) (cut_joined sign next pieces both.1)

-- pieces with a sign in front of each, cut at it
pub cut_fronted : (sign : ℕ) (pieces : List (List ℕ)) → list_all (lacks (λ b. b == sign)) pieces ≡ true
    → slice_split (λ b. b == sign) (flat_map (λ (piece : List ℕ). sign ∷ piece) pieces) ≡ [] ∷ pieces
cut_fronted sign [] none = refl
cut_fronted sign (piece ∷ pieces) none =
    let both = and_parts (lacks (λ b. b == sign) piece) (list_all (lacks (λ b. b == sign)) pieces) none in
    let later = flat_map (λ (piece : List ℕ). sign ∷ piece) pieces in
    slice_split-cons_yes (λ b. b == sign) sign (piece ++ later) (eq-eqb sign sign refl)
    ∙ ap (λ (l : List (List ℕ)). [] ∷ l) (cut_behind (λ b. b == sign) piece later both.0 ∙ ap (onto piece) (cut_fronted sign pieces both.1)
    ∙ onto_cons piece [] pieces ∙ ap (λ (l : List ℕ). l ∷ pieces) (append-nil piece))

-- what no piece has, and the sign is not, is nowhere in the whole
pub joined_all : (p : ℕ → Bool) (sign : ℕ) → p sign ≡ true → (pieces : List (List ℕ)) → list_all (list_all p) pieces ≡ true → list_all p (join_with_byte sign pieces) ≡ true
joined_all p sign at [] all = refl
joined_all p sign at (piece ∷ []) all = (and_parts (list_all p piece) true all).0
joined_all p sign at (piece ∷ next ∷ pieces) all =
    let both = and_parts (list_all p piece) (list_all (list_all p) (next ∷ pieces)) all in
    all_both p piece (sign ∷ join_with_byte sign (next ∷ pieces)) both.0
    (and_from (p sign) (list_all p (join_with_byte sign (next ∷ pieces))) at (joined_all p sign at (next ∷ pieces) both.1))

pub all_pieces_weaker : (p q : List ℕ → Bool) → ((x : List ℕ) → p x ≡ true → q x ≡ true) → (xs : List (List ℕ)) → list_all p xs ≡ true → list_all q xs ≡ true
all_pieces_weaker p q weaker [] all = refl
all_pieces_weaker p q weaker (x ∷ xs) all =
    let both = and_parts (p x) (list_all p xs) all in
    and_from (q x) (list_all q xs) (weaker x both.0) (all_pieces_weaker p q weaker xs both.1)
