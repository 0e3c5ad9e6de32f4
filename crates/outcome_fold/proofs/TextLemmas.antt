-- The text that is kept.
use Rattle.std.proofs.Common.{◌≡◌, ℕ, zero, ◌-◌, ◌≤◌, min, List, [], ◌∷◌, ◌++◌, take, length, suc, refl, ◌∙◌, ap, append_assoc, arith}
use Rattle.std.proofs.lemmas.List.{take_min, take_all, take-append-le}

take_twice : (n : ℕ) (xs : List ℕ) → take n (take n xs) ≡ take n xs
take_twice zero xs = refl
take_twice (suc n) [] = refl
take_twice (suc n) (x ∷ xs) = ap (λ l. x ∷ l) (take_twice n xs)

-- what was cut, and is cut again with more behind it
pub take_again : (n : ℕ) (xs ys : List ℕ) → take n (take n xs ++ ys) ≡ take n (xs ++ ys)
take_again zero xs ys = refl
take_again (suc n) [] ys = refl
take_again (suc n) (x ∷ xs) ys = ap (λ l. x ∷ l) (take_again n xs ys)

-- the same, where what is behind it is told by what was cut
pub cut_then : (n : ℕ) (xs : List ℕ) (behind : List ℕ → List ℕ) → take n (take n xs ++ behind (take n xs)) ≡ take n (xs ++ behind xs)
cut_then zero xs behind = refl
cut_then (suc n) [] behind = refl
cut_then (suc n) (x ∷ xs) behind = ap (λ l. x ∷ l) (cut_then n xs (λ l. behind (x ∷ l)))

take_less : (n m : ℕ) (xs : List ℕ) → n ≤ m → take n (take m xs) ≡ take n xs
take_less zero m xs less = refl
take_less (suc n) zero xs less = absurd (omega (arith, less))
take_less (suc n) (suc m) [] less = refl
take_less (suc n) (suc m) (x ∷ xs) less = ap (λ l. x ∷ l) (take_less n m xs (omega (arith, less)))

-- what stands behind may be cut, too
pub take_behind : (n m : ℕ) (xs ys : List ℕ) → n ≤ m → take n (xs ++ take m ys) ≡ take n (xs ++ ys)
take_behind zero m xs ys less = refl
take_behind (suc n) m [] ys less = take_less (suc n) m ys less
take_behind (suc n) m (x ∷ xs) ys less = ap (λ l. x ∷ l) (take_behind n m xs ys (omega (arith, less)))

pub four_tied : (a b c d : List ℕ) → a ++ b ++ c ++ d ≡ a ++ (b ++ c ++ d)
four_tied a b c d = ap (λ l. l ++ d) (append_assoc a b c) ∙ append_assoc a (b ++ c) d

one_more : (n : ℕ) (xs piece old new : List ℕ) → old ≡ take n xs → new ≡ take n (old ++ piece) → new ≡ take n (xs ++ piece)
one_more n xs piece old new before is = is ∙ ap (λ l. take n (l ++ piece)) before ∙ take_again n xs piece

-- four pieces, one after the other
pub four_pieces : (n : ℕ) (none one two three four a b c d : List ℕ) → none ≡ [] → one ≡ take n (none ++ a) → two ≡ take n (one ++ b) → three ≡ take n (two ++ c) → four ≡ take n (three ++ d) → four ≡ take n (a ++ b ++ c ++ d)
four_pieces n none one two three four a b c d is first second third fourth =
    one_more n ((a ++ b) ++ c) d three four
    (one_more n (a ++ b) c two three (one_more n a b one two (first ∙ ap (λ l. take n (l ++ a)) is) second) third) fourth

-- no more of a piece than still fits
pub fitting : (n room : ℕ) (old piece : List ℕ) → room ≡ n - length old → take n (old ++ take (min room (length piece)) piece) ≡ take n (old ++ piece)
fitting zero room old piece is = refl
fitting (suc n) room [] piece is =
    let whole : room ≡ suc n = omega arith in
    ap (take (suc n)) (take_min room piece ∙ ap (λ k. take k piece) whole) ∙ take_twice (suc n) piece
fitting (suc n) room (x ∷ xs) piece is =
    let rest : room ≡ n - length xs = omega arith in
    ap (λ l. x ∷ l) (fitting n room xs piece rest)

-- a piece that adds nothing: it has no bytes, or there is no room for one
pub none_more : (n : ℕ) (old piece : List ℕ) → length piece ≡ 0 → length old ≤ n → take n (old ++ piece) ≡ old
none_more zero [] piece none few = refl
none_more zero (x ∷ xs) piece none few = absurd (omega (arith, few))
none_more (suc n) [] [] none few = refl
none_more (suc n) [] (y ∷ ys) none few = absurd (omega (arith, none))
none_more (suc n) (x ∷ xs) piece none few = ap (λ l. x ∷ l) (none_more n xs piece none (omega (arith, few)))

pub no_room : (n : ℕ) (old piece : List ℕ) → length old ≡ n → take n (old ++ piece) ≡ old
no_room n old piece full =
    let low : n ≤ length old = omega (arith, full) in
    let high : length old ≤ n = omega (arith, full) in
    take-append-le n old piece low ∙ take_all n old high
