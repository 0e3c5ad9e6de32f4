-- Quoted text, line by line.
use Rattle.std.proofs.Common.{◌≡◌, ℕ, suc, ◌<◌, ◌==◌, false, cond, List, [], ◌∷◌, ◌++◌, length, take, drop, refl, sym, ap, ◌∙◌, append_assoc, arith}
use Rattle.std.specs.Prelude.{codes, ◌&&◌}
use Rattle.std.proofs.lemmas.Bool.{cond_both, eqb-true}
use Rattle.sub_number.specs.Lines.{begins}
use Rattle.v1_bridge.specs.Cutting.{line_size}
use Rattle.v1_bridge.specs.Writing.{brackets_spaced, quoted_line}

-- so many bytes, and the others behind a newline
abbrev cut_at : List ℕ → ℕ → List ℕ
cut_at bytes size = take size bytes ++ brackets_spaced 10 (drop size bytes)

line_behind : (byte : ℕ) (rest : List ℕ) → ((byte == 10) ≡ false → brackets_spaced byte rest ≡ cut_at rest (line_size rest)) → byte ∷ brackets_spaced byte rest ≡ cut_at (byte ∷ rest) (line_size (byte ∷ rest))
line_behind byte rest goes_on =
    cond_both (byte == 10) 1 (suc (line_size rest)) (λ (size : ℕ). byte ∷ brackets_spaced byte rest ≡ cut_at (byte ∷ rest) size)
    (λ is. ap (λ b. byte ∷ brackets_spaced b rest) (eqb-true byte 10 is))
    (λ is. ap (λ (l : List ℕ). byte ∷ l) (goes_on is))

-- behind a byte that is no newline nothing is quoted up to the end of the line
to_the_end : (before : ℕ) (rest : List ℕ) → (before == 10) ≡ false → brackets_spaced before rest ≡ cut_at rest (line_size rest)
to_the_end before [] is = refl
to_the_end before (byte ∷ rest) is =
    ap (λ b. cond (b && begins (codes "]") (byte ∷ rest)) (codes " ") [] ++ byte ∷ brackets_spaced byte rest) is
    ∙ line_behind byte rest (λ other. to_the_end byte rest other)

-- what stands before a line that begins with this byte
abbrev mark : ℕ → List ℕ
mark byte = cond (begins (codes "]") (byte ∷ [])) (codes " ") []

same_mark : (byte : ℕ) (rest : List ℕ) → mark byte ++ take (line_size (byte ∷ rest)) (byte ∷ rest) ≡ quoted_line (take (line_size (byte ∷ rest)) (byte ∷ rest))
same_mark byte rest =
    cond_both (byte == 10) 1 (suc (line_size rest)) (λ (size : ℕ). mark byte ++ take size (byte ∷ rest) ≡ quoted_line (take size (byte ∷ rest))) (λ is. refl) (λ is. refl)

first_line : (byte : ℕ) (rest : List ℕ) → brackets_spaced 10 (byte ∷ rest) ≡ quoted_line (take (line_size (byte ∷ rest)) (byte ∷ rest)) ++ brackets_spaced 10 (drop (line_size (byte ∷ rest)) (byte ∷ rest))
first_line byte rest =
    let size = line_size (byte ∷ rest) in
    ap (λ (l : List ℕ). mark byte ++ l) (line_behind byte rest (λ other. to_the_end byte rest other))
    ∙ sym (append_assoc (mark byte) (take size (byte ∷ rest)) (brackets_spaced 10 (drop size (byte ∷ rest))))
    ∙ ap (λ (l : List ℕ). l ++ brackets_spaced 10 (drop size (byte ∷ rest))) (same_mark byte rest)

-- quoted bytes are their first line and the others
pub lines_first : (bytes : List ℕ) (size : ℕ) → size ≡ line_size bytes → 0 < length bytes → brackets_spaced 10 bytes ≡ quoted_line (take size bytes) ++ brackets_spaced 10 (drop size bytes)
lines_first [] size is some = absurd (omega (arith, some))
lines_first (byte ∷ rest) size is some = first_line byte rest ∙ ap (λ n. quoted_line (take n (byte ∷ rest)) ++ brackets_spaced 10 (drop n (byte ∷ rest))) (sym is)

-- one line more is written
pub lines_more : (old out new bytes rest : List ℕ) (size : ℕ) → size ≡ line_size bytes → 0 < length bytes → out ++ brackets_spaced 10 bytes ≡ old → new ≡ out ++ quoted_line (take size bytes) → rest ≡ drop size bytes → new ++ brackets_spaced 10 rest ≡ old
lines_more old out new bytes rest size is some before more left =
    ap (λ (l : List ℕ). l ++ brackets_spaced 10 rest) more
    ∙ ap (λ (l : List ℕ). (out ++ quoted_line (take size bytes)) ++ brackets_spaced 10 l) left
    ∙ append_assoc out (quoted_line (take size bytes)) (brackets_spaced 10 (drop size bytes))
    ∙ ap (λ (l : List ℕ). out ++ l) (sym (lines_first bytes size is some)) ∙ before
