-- What is written of bytes is read back.
use Rattle.std.proofs.Common.{◌≡◌, ℕ, ◌<◌, ◌≤◌, Bool, true, List, [], ◌∷◌, ◌++◌, length, map, None, Some, encode_utf8, encode_utf8_all, refl, sym, ◌∙◌, ap, arith, append_assoc}
use Rattle.std.specs.Prelude.{Option, codes, not, ◌==◌, nat_le}
use Rattle.std.specs.Fmt.{option_append}
use Rattle.std.specs.List.{slice_split, list_all, flat_map, join_with_byte}
use Rattle.std.specs.Option.{option_map}
use Rattle.std.proofs.lemmas.Bool.{cond-true}
use Rattle.std.proofs.lemmas.List.{append-nil}
use Rattle.std.proofs.lemmas.List.Splits.{slice_split-cons_yes, join_with_byte-slice_split}
use Rattle.std.proofs.lemmas.Str.{encode_ascii}
use Rattle.bstr.specs.Utf8.{replacement, lossy_chars}
use Rattle.junit_xml.specs.declared.characters.Place.{Place}
use Rattle.junit_xml.specs.declared.characters.Place.TheVariants as place
use Rattle.junit_xml.specs.Characters.{shown_char, shown_utf8, written_char, written}
use Rattle.junit_xml.specs.Reading.{sign_named, reference_of, read_reference, read_references, text_with_references, read_text, read_value}
use Rattle.junit_xml.proofs.Cuts.{lacks, is_other, all_both, onto, onto_cons, cut_behind, cut_at, cut_nowhere, cut_gives}
use Rattle.junit_xml.proofs.CharacterLemmas.{by_char, no_sign, spelled_all, wide_written}

abbrev is_ampersand : ℕ → Bool
is_ampersand byte = byte == 38

abbrev is_semicolon : ℕ → Bool
is_semicolon byte = byte == 59

-- bytes in front of a text that are no reference

append_first : (xs front : List ℕ) (o : Option (List ℕ)) → option_append (Some (xs ++ front)) o ≡ option_append (Some xs) (option_append (Some front) o)
append_first xs front None = refl
append_first xs front (Some rest) = ap Some (append_assoc xs front rest)

text_onto : (xs : List ℕ) (pieces : List (List ℕ)) → 0 < length pieces → text_with_references (onto xs pieces) ≡ option_append (Some xs) (text_with_references pieces)
text_onto xs [] some = absurd (omega arith)
text_onto xs (front ∷ pieces) some = ap text_with_references (onto_cons xs front pieces) ∙ append_first xs front (read_references pieces)

text_behind : (xs ys : List ℕ) → lacks is_ampersand xs ≡ true → text_with_references (slice_split is_ampersand (xs ++ ys)) ≡ option_append (Some xs) (text_with_references (slice_split is_ampersand ys))
text_behind xs ys none =
    ap text_with_references (cut_behind is_ampersand xs ys none) ∙ text_onto xs (slice_split is_ampersand ys) (cut_gives is_ampersand ys)

-- a reference in front of a text

reference_with : (name : List ℕ) (pieces : List (List ℕ)) → 0 < length pieces → reference_of (name ∷ pieces) ≡ option_map (λ sign. sign ∷ join_with_byte 59 pieces) (sign_named name)
reference_with name [] some = absurd (omega arith)
reference_with name (behind ∷ pieces) some = refl

reference_read : (name : List ℕ) (sign : ℕ) (front : List ℕ) → lacks is_semicolon name ≡ true → sign_named name ≡ Some sign → read_reference ((name ++ 59 ∷ []) ++ front) ≡ Some (sign ∷ front)
reference_read name sign front none named =
    ap (λ (l : List ℕ). read_reference l) (append_assoc name (59 ∷ []) front)
    ∙ ap reference_of (cut_at is_semicolon name 59 front none refl)
    ∙ reference_with name (slice_split is_semicolon front) (cut_gives is_semicolon front)
    ∙ ap (option_map (λ s. s ∷ join_with_byte 59 (slice_split is_semicolon front))) named
    ∙ ap (λ (l : List ℕ). Some (sign ∷ l)) (join_with_byte-slice_split 59 front)

sign_first : (sign : ℕ) (front : List ℕ) (o : Option (List ℕ)) → option_append (Some []) (option_append (Some (sign ∷ front)) o) ≡ option_append (Some (sign ∷ [])) (option_append (Some front) o)
sign_first sign front None = refl
sign_first sign front (Some rest) = refl

reference_onto : (name : List ℕ) (sign : ℕ) (pieces : List (List ℕ)) → 0 < length pieces → lacks is_semicolon name ≡ true → sign_named name ≡ Some sign
    → text_with_references ([] ∷ onto (name ++ 59 ∷ []) pieces) ≡ option_append (Some (sign ∷ [])) (text_with_references pieces)
reference_onto name sign [] some none named = absurd (omega arith)
reference_onto name sign (front ∷ pieces) some none named =
    ap (λ (l : List (List ℕ)). text_with_references ([] ∷ l)) (onto_cons (name ++ 59 ∷ []) front pieces)
    ∙ ap (λ o. option_append (Some []) (option_append o (read_references pieces))) (reference_read name sign front none named)
    ∙ sign_first sign front (read_references pieces)

-- the name of a sign has no sign of a reference in it
abbrev is_name : List ℕ → Type 0
is_name name = (lacks is_ampersand name ≡ true) × (lacks is_semicolon name ≡ true)

reference_behind : (name : List ℕ) (sign : ℕ) (ys : List ℕ) → is_name name → sign_named name ≡ Some sign
    → text_with_references (slice_split is_ampersand (38 ∷ (name ++ 59 ∷ []) ++ ys)) ≡ option_append (Some (sign ∷ [])) (text_with_references (slice_split is_ampersand ys))
reference_behind name sign ys apart named =
    let whole : lacks is_ampersand (name ++ 59 ∷ []) ≡ true = all_both (λ x. not (is_ampersand x)) name (59 ∷ []) apart.0 refl in
    ap text_with_references (slice_split-cons_yes is_ampersand 38 ((name ++ 59 ∷ []) ++ ys) refl ∙ ap (λ (l : List (List ℕ)). [] ∷ l) (cut_behind is_ampersand (name ++ 59 ∷ []) ys whole))
    ∙ reference_onto name sign (slice_split is_ampersand ys) (cut_gives is_ampersand ys) apart.1 named

abbrev ReadsFirst : List ℕ → ℕ → Type 0
ReadsFirst w char = (ys : List ℕ) → text_with_references (slice_split is_ampersand (w ++ ys)) ≡ option_append (Some (encode_utf8 char)) (text_with_references (slice_split is_ampersand ys))

named_first : (name : List ℕ) (sign : ℕ) → sign < 128 → is_name name → sign_named name ≡ Some sign → ReadsFirst (38 ∷ name ++ 59 ∷ []) sign
named_first name sign small apart named ys =
    reference_behind name sign ys apart named ∙ ap (λ (l : List ℕ). option_append (Some l) (text_with_references (slice_split is_ampersand ys))) (sym (encode_ascii sign small))

read_char : (stands : Place) (char : ℕ) → ReadsFirst (written_char stands char) (shown_char char)
read_char stands char =
    by_char ReadsFirst stands char
    (named_first (codes "amp") 38 (omega arith) (refl, refl) refl)
    (named_first (codes "lt") 60 (omega arith) (refl, refl) refl)
    (named_first (codes "gt") 62 (omega arith) (refl, refl) refl)
    (named_first (codes "quot") 34 (omega arith) (refl, refl) refl)
    (named_first (codes "#9") 9 (omega arith) (refl, refl) refl)
    (named_first (codes "#10") 10 (omega arith) (refl, refl) refl)
    (named_first (codes "#13") 13 (omega arith) (refl, refl) refl)
    (λ ys. text_behind (encode_utf8 replacement) ys (spelled_all (λ x. not (is_ampersand x)) replacement (λ byte above. is_other byte 38 (λ is. absurd (omega arith))) (λ small. absurd (omega arith))))
    (λ allowed no_markup no_break ys. text_behind (encode_utf8 char) ys
    (spelled_all (λ x. not (is_ampersand x)) char (λ byte above. is_other byte 38 (λ is. absurd (omega arith))) (λ small. is_other char 38 (no_sign char no_markup).0)))

chars_read : (stands : Place) (chars : List ℕ) → read_text (flat_map (written_char stands) chars) ≡ Some (encode_utf8_all (map shown_char chars))
chars_read stands [] = refl
chars_read stands (char ∷ chars) =
    read_char stands char (flat_map (written_char stands) chars) ∙ ap (option_append (Some (encode_utf8 (shown_char char)))) (chars_read stands chars)

-- a text is read back as what is shown of it
pub text_read : (bytes : List ℕ) → read_text (written place.Text bytes) ≡ Some (shown_utf8 bytes)
text_read bytes = chars_read place.Text (lossy_chars bytes)

-- and so is a value
pub value_read : (bytes : List ℕ) → read_value (written place.Value bytes) ≡ Some (shown_utf8 bytes)
value_read bytes =
    cond-true (list_all (nat_le 32) (written place.Value bytes)) (read_text (written place.Value bytes)) None (wide_written bytes) ∙ chars_read place.Value (lossy_chars bytes)

-- a value without references is itself
pub plain_read : (bytes : List ℕ) → list_all (nat_le 32) bytes ≡ true → lacks is_ampersand bytes ≡ true → read_value bytes ≡ Some bytes
plain_read bytes wide none =
    cond-true (list_all (nat_le 32) bytes) (read_text bytes) None wide ∙ ap text_with_references (cut_nowhere is_ampersand bytes none) ∙ ap Some (append-nil bytes)
