-- Words between single quotes are texts.
use Rattle.std.proofs.Common.{◌≡◌, ◌<◌, ◌+◌, ℕ, zero, suc, Bool, true, false, ◌==◌, List, [], ◌∷◌, ◌++◌, length, take, drop, get_or, codes, refl, sym, ap, subst, ◌∙◌, append_assoc, arith}
use Rattle.std.specs.List.{flat_map, list_any}
use Rattle.std.proofs.lemmas.Bool.{cond-true, cond-false, or_parts, or_from, eqb-true}
use Rattle.std.proofs.lemmas.List.{append-nil, get_or_at}
use Rattle.std.proofs.lemmas.List.Concat.{flat_map-append}
use Rattle.std.proofs.lemmas.List.Folds.{list_any-append}
use Rattle.sub_number.specs.Texts.{IsText}
use Rattle.testr_conf.specs.Jobs.{quoted_byte, single_quoted}
use Rattle.testr_conf.proofs.TextLemmas.{text_append, text_one, text_before, text_behind}

abbrev is_quote : ℕ → Bool
is_quote byte = byte == 39

abbrev escaped : List ℕ
escaped = codes "'\\''"

-- what has no quote stays as it is
plain_same : (word : List ℕ) → list_any is_quote word ≡ false → flat_map quoted_byte word ≡ word
plain_same [] none = refl
plain_same (b ∷ word) none =
    let parts = or_parts (b == 39) (list_any is_quote word) none in
    ap (λ q. q ++ flat_map quoted_byte word) (cond-false (b == 39) escaped (b ∷ []) parts.0) ∙ ap (λ w. b ∷ w) (plain_same word parts.1)

take_front : (front rest : List ℕ) → take (length front) (front ++ rest) ≡ front
take_front [] rest = refl
take_front (b ∷ front) rest = ap (λ l. b ∷ l) (take_front front rest)

drop_front : (front : List ℕ) (b : ℕ) (rest : List ℕ) (n : ℕ) → n ≡ length front + 1 → drop n (front ++ b ∷ rest) ≡ rest
drop_front [] b rest n is = subst (λ m. drop m (b ∷ rest) ≡ rest) (sym is) refl
drop_front (a ∷ front) b rest zero is = absurd (omega (arith, is))
drop_front (a ∷ front) b rest (suc n) is = drop_front front b rest n (omega (arith, is))

in_front : (front : List ℕ) (b : ℕ) (rest : List ℕ) → length front < length (front ++ b ∷ rest)
in_front [] b rest = omega arith
in_front (a ∷ front) b rest = omega (arith, in_front front b rest)

escaped_text : IsText escaped
escaped_text =
    text_append (39 ∷ []) (92 ∷ 39 ∷ 39 ∷ []) (text_one 39 (omega arith) (omega arith))
    (text_append (92 ∷ []) (39 ∷ 39 ∷ []) (text_one 92 (omega arith) (omega arith))
    (text_append (39 ∷ []) (39 ∷ []) (text_one 39 (omega arith) (omega arith)) (text_one 39 (omega arith) (omega arith))))

-- a word behind a front that has no quote
quoted_behind : (word front : List ℕ) → IsText (front ++ word) → list_any is_quote front ≡ false → IsText (flat_map quoted_byte (front ++ word))
quoted_behind [] front text none =
    subst (λ w. IsText (flat_map quoted_byte w)) (sym (append-nil front)) (subst IsText (sym (plain_same front none)) (subst IsText (append-nil front) text))
quoted_behind (b ∷ word) front text none = by (b == 39) (λ f t n. quoted_behind word f t n) refl
  where
    by : (t : Bool) → ((f : List ℕ) → IsText (f ++ word) → list_any is_quote f ≡ false → IsText (flat_map quoted_byte (f ++ word))) → (b == 39) ≡ t → IsText (flat_map quoted_byte (front ++ b ∷ word))
    by false later is =
        subst (λ w. IsText (flat_map quoted_byte w)) (append_assoc front (b ∷ []) word)
        (later (front ++ b ∷ []) (subst IsText (sym (append_assoc front (b ∷ []) word)) text)
        (list_any-append is_quote front (b ∷ []) ∙ or_from (list_any is_quote front) (list_any is_quote (b ∷ [])) none (or_from (b == 39) false is refl)))
    by true later is =
        let byte : b ≡ 39 = eqb-true b 39 is in
        let ascii : get_or (front ++ b ∷ word) (length front) 0 < 128 = omega (arith, byte, get_or_at front b word 0 (length front) refl) in
        let before : IsText front = subst IsText (take_front front (b ∷ word)) (text_before (front ++ b ∷ word) (length front) text (in_front front b word) ascii) in
        let behind : IsText word = subst IsText (drop_front front b word (length front + 1) refl) (text_behind (front ++ b ∷ word) (length front) text (in_front front b word) ascii) in
        subst IsText
        (sym (flat_map-append quoted_byte front (b ∷ word)
        ∙ ap (λ f. f ++ (quoted_byte b ++ flat_map quoted_byte word)) (plain_same front none)
        ∙ ap (λ q. front ++ (q ++ flat_map quoted_byte word)) (cond-true (b == 39) escaped (b ∷ []) is)))
        (text_append front (escaped ++ flat_map quoted_byte word) before (text_append escaped (flat_map quoted_byte word) escaped_text (later [] behind refl)))

-- a space, and a word between single quotes
pub argument_text : (word : List ℕ) → IsText word → IsText (32 ∷ single_quoted word)
argument_text word text =
    text_append (32 ∷ []) (single_quoted word) (text_one 32 (omega arith) (omega arith))
    (text_append (39 ∷ []) (flat_map quoted_byte word ++ 39 ∷ []) (text_one 39 (omega arith) (omega arith))
    (text_append (flat_map quoted_byte word) (39 ∷ []) (quoted_behind word [] text refl) (text_one 39 (omega arith) (omega arith))))
