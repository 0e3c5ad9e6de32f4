-- Comments, of which the first bytes are kept.
use Rattle.std.proofs.Common.{◌≡◌, ℕ, zero, suc, List, [], ◌∷◌, ◌++◌, take, refl, ◌∙◌, ap, append_assoc}
use Rattle.std.proofs.lemmas.List.{flat_map_more}
use Rattle.std.specs.List.{flat_map}
use Rattle.sub_number.specs.Lines.{with_newline}
use Rattle.tap_bridge.specs.Events.{comment_of, comment_limit, reason_line}

take_twice : (n : ℕ) (xs : List ℕ) → take n (take n xs) ≡ take n xs
take_twice zero xs = refl
take_twice (suc n) [] = refl
take_twice (suc n) (x ∷ xs) = ap (λ l. x ∷ l) (take_twice n xs)

take_taken : (n : ℕ) (xs ys : List ℕ) → take n (take n xs ++ ys) ≡ take n (xs ++ ys)
take_taken zero xs ys = refl
take_taken (suc n) [] ys = refl
take_taken (suc n) (x ∷ xs) ys = ap (λ l. x ∷ l) (take_taken n xs ys)

-- one comment line more
pub comment_push : (reason line : List ℕ) (lines : List (List ℕ)) → take comment_limit (comment_of reason lines ++ with_newline line) ≡ comment_of reason (lines ++ line ∷ [])
comment_push reason line lines =
    let all : List (List ℕ) = reason_line reason ++ lines in
    take_taken 65536 (flat_map with_newline all) (with_newline line)
    ∙ ap (take 65536) (flat_map_more with_newline [] all line ∙ ap (flat_map with_newline) (append_assoc (reason_line reason) lines (line ∷ [])))
