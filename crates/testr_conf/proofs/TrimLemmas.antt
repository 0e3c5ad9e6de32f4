-- Parts of a text that are texts, and their lengths.
use Rattle.std.proofs.Common.{◌≡◌, ◌<◌, ◌≤◌, ◌+◌, ℕ, true, cond, ◌||◌, ◌==◌, List, [], ◌∷◌, ◌++◌, length, reverse, refl, sym, ap, subst, ◌∙◌, ⊎_elim, arith}
use Rattle.std.proofs.lemmas.List.{reverse-append, reverse-reverse, length-reverse, length-append, take_at, get_or_at}
use Rattle.std.specs.Prelude.{codes, nat_lt, ◌&&◌, ◌%◌, ◌^◌}
use Rattle.std.specs.List.{list_all}
use Rattle.std.specs.Fmt.{decimal}
use Rattle.std.proofs.lemmas.Fmt.{decimal_by_steps, length-decimal-le}
use Rattle.std.proofs.lemmas.Bool.{cases_Bool, or_cases, and_parts, eqb-true, ltb-true}
use Rattle.sub_number.specs.Texts.{IsText, IsShortText}
use Rattle.testr_conf.specs.White.{is_white, is_gap, front_trimmed, trimmed}
use Rattle.testr_conf.proofs.TextLemmas.{text_before, text_behind, text_nil, text_one, text_append}

white_small : (b : ℕ) → is_white b ≡ true → b < 128
white_small b is =
    ⊎_elim (λ h. ⊎_elim (λ h. ⊎_elim (λ h. ⊎_elim (λ h. omega (arith, eqb-true b 32 h)) (λ h. omega (arith, eqb-true b 9 h)) (or_cases (b == 32) (b == 9) h))
    (λ h. omega (arith, eqb-true b 13 h)) (or_cases (b == 32 || b == 9) (b == 13) h))
    (λ h. omega (arith, eqb-true b 11 h)) (or_cases (b == 32 || b == 9 || b == 13) (b == 11) h))
    (λ h. omega (arith, eqb-true b 12 h)) (or_cases (b == 32 || b == 9 || b == 13 || b == 11) (b == 12) is)

pub gap_small : (b : ℕ) → is_gap b ≡ true → b < 128
gap_small b is = ⊎_elim (λ h. white_small b h) (λ h. omega (arith, eqb-true b 10 h)) (or_cases (is_white b) (b == 10) is)

front_text : (bytes : List ℕ) → IsText bytes → IsText (front_trimmed bytes)
front_text [] text = text
front_text (b ∷ bytes) text =
    ⊎_elim
    (λ gap.
    let rest : IsText bytes = text_behind (b ∷ bytes) 0 text (omega arith) (gap_small b gap) in
    subst (λ w. IsText (cond w (front_trimmed bytes) (b ∷ bytes))) (sym gap) (front_text bytes rest))
    (λ other. subst (λ w. IsText (cond w (front_trimmed bytes) (b ∷ bytes))) (sym other) text)
    (cases_Bool (is_gap b))

-- the last byte of a text, where it is ASCII, may be left out
front_of : (bytes : List ℕ) (b : ℕ) → b < 128 → IsText (bytes ++ b ∷ []) → IsText bytes
front_of bytes b small text =
    subst IsText (take_at bytes (b ∷ []) (length bytes) refl)
    (text_before (bytes ++ b ∷ []) (length bytes) text (omega (arith, length-append bytes (b ∷ []))) (omega (arith, get_or_at bytes b [] 0 (length bytes) refl)))

back_text : (back : List ℕ) → IsText (reverse back) → IsText (reverse (front_trimmed back))
back_text [] text = text
back_text (b ∷ back) text =
    ⊎_elim
    (λ gap.
    subst (λ w. IsText (reverse (cond w (front_trimmed back) (b ∷ back)))) (sym gap)
    (back_text back (front_of (reverse back) b (gap_small b gap) (subst IsText (reverse-append (b ∷ []) back) text))))
    (λ other. subst (λ w. IsText (reverse (cond w (front_trimmed back) (b ∷ back)))) (sym other) text)
    (cases_Bool (is_gap b))

pub trimmed_text : (bytes : List ℕ) → IsText bytes → IsText (trimmed bytes)
trimmed_text bytes text =
    let front : IsText (front_trimmed bytes) = front_text bytes text in
    back_text (reverse (front_trimmed bytes)) (subst IsText (sym (reverse-reverse (front_trimmed bytes))) front)

front_short : (bytes : List ℕ) → length (front_trimmed bytes) ≤ length bytes
front_short [] = omega arith
front_short (b ∷ bytes) =
    ⊎_elim
    (λ gap. subst (λ w. length (cond w (front_trimmed bytes) (b ∷ bytes)) ≤ length (b ∷ bytes)) (sym gap) (omega (arith, front_short bytes)))
    (λ other. subst (λ w. length (cond w (front_trimmed bytes) (b ∷ bytes)) ≤ length (b ∷ bytes)) (sym other) (omega arith))
    (cases_Bool (is_gap b))

pub trimmed_short : (bytes : List ℕ) → length (trimmed bytes) ≤ length bytes
trimmed_short bytes =
    omega (arith, length-reverse (front_trimmed (reverse (front_trimmed bytes))), front_short (reverse (front_trimmed bytes)), length-reverse (front_trimmed bytes), front_short bytes)

-- a number in decimal is a text
pub digits_text : (n : ℕ) → n < 2 ^ 64 → IsText (decimal n)
digits_text n small =
    decimal_by_steps (λ k ds. IsText ds) (λ k below. text_one (48 + k) (omega arith) (omega arith))
    (λ k ds past text. text_append ds ((48 + k % 10) ∷ []) text (text_one (48 + k % 10) (omega arith) (omega arith))) n small

all_text : (bytes : List ℕ) → list_all (λ b. nat_lt 0 b && nat_lt b 128) bytes ≡ true → IsText bytes
all_text [] all = text_nil
all_text (b ∷ bytes) all =
    let parts = and_parts (nat_lt 0 b && nat_lt b 128) (list_all (λ b. nat_lt 0 b && nat_lt b 128) bytes) all in
    let both = and_parts (nat_lt 0 b) (nat_lt b 128) parts.0 in
    text_append (b ∷ []) bytes (text_one b (ltb-true b 128 both.1) (ltb-true 0 b both.0)) (all_text bytes parts.1)

-- the name of an id file
pub file_name_text : (name : List ℕ) (lane : ℕ) → lane < 64 → name ≡ codes ".testr-ids." ++ decimal lane → IsShortText name
file_name_text name lane few is = record {
  text = subst IsText (sym is) (text_append (codes ".testr-ids.") (decimal lane) (all_text (codes ".testr-ids.") refl) (digits_text lane (omega arith)));
  short = omega (arith, ap length is ∙ length-append (codes ".testr-ids.") (decimal lane), length-decimal-le 2 lane (omega arith) (omega arith) (omega arith));
}
