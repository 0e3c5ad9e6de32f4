-- Quoted text has no line that is a bracket.
use Rattle.std.proofs.Common.{◌≡◌, ℕ, zero, suc, ◌-◌, ◌==◌, ◌&&◌, nat_eq, Bool, true, false, cond, List, [], ◌∷◌, ◌++◌, length, take, refl, sym, ap, subst}
use Rattle.std.specs.Prelude.{⊤, codes}
use Rattle.std.specs.List.{ends_with}
use Rattle.std.specs.Cmp.Lexicographic.{pointwise}
use Rattle.std.proofs.lemmas.Bool.{cond_both, eqb-true}
use Rattle.sub_number.specs.Lines.{begins, without_return}
use Rattle.v1_bridge.specs.Stages.{is_bracket_line}
use Rattle.v1_bridge.specs.Cutting.{lines_behind, lines_of}
use Rattle.v1_bridge.specs.Writing.{last_byte_behind, brackets_spaced, newline_behind}

-- none of the lines is a bracket
abbrev pub NoBrackets : List (List ℕ) → Type 0
NoBrackets [] = ⊤
NoBrackets (line ∷ lines) = (is_bracket_line line ≡ false) × NoBrackets lines

pub none_then : (xs ys : List (List ℕ)) → NoBrackets xs → NoBrackets ys → NoBrackets (xs ++ ys)
none_then [] ys first later = later
none_then (x ∷ xs) ys first later = (first.0, none_then xs ys first.1 later)

other_front : (byte : ℕ) (bytes : List ℕ) → nat_eq 93 byte ≡ false → (n : ℕ) → pointwise nat_eq (93 ∷ []) (take n (byte ∷ bytes)) ≡ false
other_front byte bytes is zero = refl
other_front byte bytes is (suc n) = ap (λ b. b && pointwise nat_eq [] (take n bytes)) is

other_fronts : (byte : ℕ) (bytes : List ℕ) → nat_eq 93 byte ≡ false → (m n : ℕ) → pointwise nat_eq (93 ∷ []) (take m (take n (byte ∷ bytes))) ≡ false
other_fronts byte bytes is zero n = refl
other_fronts byte bytes is (suc m) zero = refl
other_fronts byte bytes is (suc m) (suc n) = ap (λ b. b && pointwise nat_eq [] (take m (take n bytes))) is

-- a line that begins with another byte is none
pub begins_other : (byte : ℕ) (bytes : List ℕ) → nat_eq 93 byte ≡ false → is_bracket_line (byte ∷ bytes) ≡ false
begins_other byte bytes is =
    cond_both (ends_with nat_eq (byte ∷ bytes) (10 ∷ [])) (take (length (byte ∷ bytes) - 1) (byte ∷ bytes)) (byte ∷ bytes) (λ (l : List ℕ). pointwise nat_eq (93 ∷ []) (without_return l) ≡ false)
    (λ newline. front (length (byte ∷ bytes) - 1))
    (λ none. cond_both (ends_with nat_eq (byte ∷ bytes) (13 ∷ [])) (take (length (byte ∷ bytes) - 1) (byte ∷ bytes)) (byte ∷ bytes) (λ (l : List ℕ). pointwise nat_eq (93 ∷ []) l ≡ false)
    (λ return. other_front byte bytes is (length (byte ∷ bytes) - 1))
    (λ none. ap (λ b. b && pointwise nat_eq [] bytes) is))
  where
    front : (n : ℕ) → pointwise nat_eq (93 ∷ []) (without_return (take n (byte ∷ bytes))) ≡ false
    front n =
        cond_both (ends_with nat_eq (take n (byte ∷ bytes)) (13 ∷ [])) (take (length (take n (byte ∷ bytes)) - 1) (take n (byte ∷ bytes))) (take n (byte ∷ bytes)) (λ (l : List ℕ). pointwise nat_eq (93 ∷ []) l ≡ false)
        (λ return. other_fronts byte bytes is (length (take n (byte ∷ bytes)) - 1) n)
        (λ none. other_front byte bytes is n)

-- what is quoted, up to the end of its last line
abbrev whole : ℕ → List ℕ → List ℕ
whole before text = brackets_spaced before text ++ newline_behind (last_byte_behind before text)

-- The front of a line that was begun: none behind a newline, and else one that begins with another byte than a bracket.
abbrev IsFront : ℕ → List ℕ → Type 0
IsFront before [] = before ≡ 10
IsFront before (first ∷ front) = (nat_eq 93 first ≡ false) × ((before == 10) ≡ false)

-- one byte more of a line, which ends with it or not
one_more : (front bytes : List ℕ) (byte : ℕ) → ((byte == 10) ≡ true → NoBrackets ((front ++ byte ∷ []) ∷ lines_behind [] bytes)) → ((byte == 10) ≡ false → NoBrackets (lines_behind (front ++ byte ∷ []) bytes)) → NoBrackets (lines_behind front (byte ∷ bytes))
one_more front bytes byte ends goes_on = cond_both (byte == 10) ((front ++ byte ∷ []) ∷ lines_behind [] bytes) (lines_behind (front ++ byte ∷ []) bytes) NoBrackets ends goes_on

-- a line that begins with this byte
quoted_or_not : (byte : ℕ) (text : List ℕ) (b : Bool) → nat_eq 93 byte ≡ b → ((c : ℕ) (front : List ℕ) → IsFront c front → NoBrackets (lines_behind front (whole c text)))
    → NoBrackets (lines_behind [] ((cond (b && true) (32 ∷ []) [] ++ byte ∷ brackets_spaced byte text) ++ newline_behind (last_byte_behind byte text)))
quoted_or_not byte text true bracket rest =
    let is : 93 ≡ byte = eqb-true 93 byte bracket in
    subst (λ c. NoBrackets (lines_behind (32 ∷ []) (c ∷ whole c text))) is (rest 93 (32 ∷ 93 ∷ []) (refl, refl))
quoted_or_not byte text false other rest =
    one_more [] (whole byte text) byte
    (λ ten. (begins_other byte [] other, rest byte [] (eqb-true byte 10 ten)))
    (λ not. rest byte (byte ∷ []) (other, not))

all_lines : (text : List ℕ) (before : ℕ) (front : List ℕ) → IsFront before front → NoBrackets (lines_behind front (whole before text))
all_lines [] before [] is = subst (λ b. NoBrackets (lines_behind [] (newline_behind b))) (sym is) tt
all_lines [] before (first ∷ front) (other, not) = subst (λ b. NoBrackets (lines_behind (first ∷ front) (cond b [] (10 ∷ [])))) (sym not) (begins_other first (front ++ 10 ∷ []) other, tt)
all_lines (byte ∷ text) before [] is =
    subst (λ b. NoBrackets (lines_behind [] (whole b (byte ∷ text)))) (sym is) (quoted_or_not byte text (nat_eq 93 byte) refl (λ c front begun. all_lines text c front begun))
all_lines (byte ∷ text) before (first ∷ front) (other, not) =
    subst (λ b. NoBrackets (lines_behind (first ∷ front) ((cond (b && begins (codes "]") (byte ∷ text)) (codes " ") [] ++ byte ∷ brackets_spaced byte text) ++ newline_behind (last_byte_behind byte text)))) (sym not)
    (one_more (first ∷ front) (whole byte text) byte
    (λ ten. (begins_other first (front ++ byte ∷ []) other, all_lines text byte [] (eqb-true byte 10 ten)))
    (λ on. all_lines text byte (first ∷ front ++ byte ∷ []) (other, on)))

-- no line of quoted text is a bracket
pub text_has_none : (text : List ℕ) → NoBrackets (lines_of (whole 10 text))
text_has_none text = all_lines text 10 [] refl
