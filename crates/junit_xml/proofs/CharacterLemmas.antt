-- Characters as they are written.
use Rattle.std.proofs.Common.{◌≡◌, ◌≢◌, ℕ, ◌+◌, ◌/◌, ◌%◌, ◌<◌, ◌≤◌, Bool, true, false, cond, nat_lt, List, [], ◌∷◌, ◌++◌, map, length, None, Some, encode_utf8, encode_utf8_all, refl, sym, ◌∙◌, ap, subst, arith, ⊎_elim, true≢false}
use Rattle.std.specs.Prelude.{Option, codes, not, ◌&&◌, ◌||◌, ◌==◌, nat_le}
use Rattle.std.specs.List.{list_all, flat_map}
use Rattle.std.specs.Option.{option_or, unwrap_or}
use Rattle.std.proofs.lemmas.Bool.{cases_Bool, cond-true, cond-false, cond_both, eqb-true, ne_eqb, and_from, and_parts, and_left, or_from, ltb-true, ltb-false, lt-ltb, lt-leb, le-leb, cases_lt}
use Rattle.std.proofs.lemmas.Str.{length-encode, len_utf8_bounds}
use Rattle.bstr.specs.Utf8.{replacement, lossy_chars}
use Rattle.junit_xml.specs.declared.characters.Place.{Place}
use Rattle.junit_xml.specs.declared.characters.Place.TheVariants as place
use Rattle.junit_xml.specs.Characters.{is_xml_char, shown_char, markup_escape, break_escape, refused_escape, escape, written_char, written}
use Rattle.junit_xml.proofs.Cuts.{is_other, all_both}
use lib.Utf8.{encode, next}

-- the written form and the shown character of a character, case by case
plain_by : (P : List ℕ → ℕ → Type 0) (stands : Place) (char : ℕ) → markup_escape char ≡ None → break_escape stands char ≡ None
    → P (encode_utf8 replacement) replacement → (is_xml_char char ≡ true → P (encode_utf8 char) char) → P (written_char stands char) (shown_char char)
plain_by P stands char no_markup no_break refused plain =
    let so_far : escape stands char ≡ refused_escape char =
    ap (λ o. option_or o (option_or (break_escape stands char) (refused_escape char))) no_markup ∙ ap (λ o. option_or o (refused_escape char)) no_break in
    ⊎_elim
    (λ (yes : is_xml_char char ≡ true).
    let as_it_is : written_char stands char ≡ encode_utf8 char = ap (λ o. unwrap_or o (encode_utf8 char)) (so_far ∙ cond-true (is_xml_char char) None (Some (encode_utf8 replacement)) yes) in
    let shown_is : shown_char char ≡ char = cond-true (is_xml_char char) char replacement yes in
    subst (λ w. P w (shown_char char)) (sym as_it_is) (subst (λ s. P (encode_utf8 char) s) (sym shown_is) (plain yes)))
    (λ (no : is_xml_char char ≡ false).
    let other : written_char stands char ≡ encode_utf8 replacement = ap (λ o. unwrap_or o (encode_utf8 char)) (so_far ∙ cond-false (is_xml_char char) None (Some (encode_utf8 replacement)) no) in
    let shown_is : shown_char char ≡ replacement = cond-false (is_xml_char char) char replacement no in
    subst (λ w. P w (shown_char char)) (sym other) (subst (λ s. P (encode_utf8 replacement) s) (sym shown_is) refused))
    (cases_Bool (is_xml_char char))

break_by : (P : List ℕ → ℕ → Type 0) (stands : Place) (char : ℕ) → markup_escape char ≡ None
    → P (codes "&#9;") 9 → P (codes "&#10;") 10 → P (codes "&#13;") 13 → P (encode_utf8 replacement) replacement
    → (is_xml_char char ≡ true → break_escape stands char ≡ None → P (encode_utf8 char) char)
    → P (written_char stands char) (shown_char char)
break_by P place.Text char no_markup tab newline return refused plain = plain_by P place.Text char no_markup refl refused (λ allowed. plain allowed refl)
break_by P place.Value char no_markup tab newline return refused plain =
    ⊎_elim (λ (is : (char == 9) ≡ true). subst (λ c. P (written_char place.Value c) (shown_char c)) (sym (eqb-true char 9 is)) tab) (λ (no9 : (char == 9) ≡ false).
    ⊎_elim (λ (is : (char == 10) ≡ true). subst (λ c. P (written_char place.Value c) (shown_char c)) (sym (eqb-true char 10 is)) newline) (λ (no10 : (char == 10) ≡ false).
    ⊎_elim (λ (is : (char == 13) ≡ true). subst (λ c. P (written_char place.Value c) (shown_char c)) (sym (eqb-true char 13 is)) return) (λ (no13 : (char == 13) ≡ false).
    let no_break : break_escape place.Value char ≡ None = cond-false _ _ _ no9 ∙ cond-false _ _ _ no10 ∙ cond-false _ _ _ no13 in
    plain_by P place.Value char no_markup no_break refused (λ allowed. plain allowed no_break))
    (cases_Bool (char == 13))) (cases_Bool (char == 10))) (cases_Bool (char == 9))

pub by_char : (P : List ℕ → ℕ → Type 0) (stands : Place) (char : ℕ)
    → P (codes "&amp;") 38 → P (codes "&lt;") 60 → P (codes "&gt;") 62 → P (codes "&quot;") 34
    → P (codes "&#9;") 9 → P (codes "&#10;") 10 → P (codes "&#13;") 13 → P (encode_utf8 replacement) replacement
    → (is_xml_char char ≡ true → markup_escape char ≡ None → break_escape stands char ≡ None → P (encode_utf8 char) char)
    → P (written_char stands char) (shown_char char)
by_char P stands char amp lt gt quot tab newline return refused plain =
    ⊎_elim (λ (is : (char == 38) ≡ true). subst (λ c. P (written_char stands c) (shown_char c)) (sym (eqb-true char 38 is)) amp) (λ (no38 : (char == 38) ≡ false).
    ⊎_elim (λ (is : (char == 60) ≡ true). subst (λ c. P (written_char stands c) (shown_char c)) (sym (eqb-true char 60 is)) lt) (λ (no60 : (char == 60) ≡ false).
    ⊎_elim (λ (is : (char == 62) ≡ true). subst (λ c. P (written_char stands c) (shown_char c)) (sym (eqb-true char 62 is)) gt) (λ (no62 : (char == 62) ≡ false).
    ⊎_elim (λ (is : (char == 34) ≡ true). subst (λ c. P (written_char stands c) (shown_char c)) (sym (eqb-true char 34 is)) quot) (λ (no34 : (char == 34) ≡ false).
    let no_markup : markup_escape char ≡ None = cond-false _ _ _ no38 ∙ cond-false _ _ _ no60 ∙ cond-false _ _ _ no62 ∙ cond-false _ _ _ no34 in
    break_by P stands char no_markup tab newline return refused (λ allowed no_break. plain allowed no_markup no_break))
    (cases_Bool (char == 34))) (cases_Bool (char == 62))) (cases_Bool (char == 60))) (cases_Bool (char == 38))

-- a sign of the markup has an escape
some_none : {A : Type 0} (x : A) → Some x ≡ None → ⊥
some_none x is = cc

pub no_sign : (char : ℕ) → markup_escape char ≡ None → (char ≢ 38) × (char ≢ 60) × (char ≢ 62) × (char ≢ 34)
no_sign char none = (
  λ is. some_none (codes "&amp;") (subst (λ c. markup_escape c ≡ None) is none),
  λ is. some_none (codes "&lt;") (subst (λ c. markup_escape c ≡ None) is none),
  λ is. some_none (codes "&gt;") (subst (λ c. markup_escape c ≡ None) is none),
  λ is. some_none (codes "&quot;") (subst (λ c. markup_escape c ≡ None) is none),
)

pub no_break_sign : (char : ℕ) → break_escape place.Value char ≡ None → (char ≢ 9) × (char ≢ 10) × (char ≢ 13)
no_break_sign char none = (
  λ is. some_none (codes "&#9;") (subst (λ c. break_escape place.Value c ≡ None) is none),
  λ is. some_none (codes "&#10;") (subst (λ c. break_escape place.Value c ≡ None) is none),
  λ is. some_none (codes "&#13;") (subst (λ c. break_escape place.Value c ≡ None) is none),
)

-- the bytes of a character pass where bytes of 128 and more do, and a smaller character does
abbrev two : ℕ → List ℕ
two char = (192 + char / 64) ∷ next char ∷ []

abbrev three : ℕ → List ℕ
three char = (224 + char / 4096) ∷ next (char / 64) ∷ next char ∷ []

abbrev four : ℕ → List ℕ
four char = (240 + char / 262144) ∷ next (char / 4096) ∷ next (char / 64) ∷ next char ∷ []

pub spelled_all : (test : ℕ → Bool) (char : ℕ) → ((byte : ℕ) → 128 ≤ byte → test byte ≡ true) → (char < 128 → test char ≡ true) → list_all test (encode_utf8 char) ≡ true
unfolding lib.Utf8.encode
spelled_all test char high low =
    let more : (byte : ℕ) (bytes : List ℕ) → 128 ≤ byte → list_all test bytes ≡ true → list_all test (byte ∷ bytes) ≡ true =
    λ byte bytes above rest. and_from (test byte) (list_all test bytes) (high byte above) rest in
    let last : list_all test (next char ∷ []) ≡ true = more (next char) [] (omega arith) refl in
    let second : list_all test (next (char / 64) ∷ next char ∷ []) ≡ true = more (next (char / 64)) (next char ∷ []) (omega arith) last in
    let third : list_all test (next (char / 4096) ∷ next (char / 64) ∷ next char ∷ []) ≡ true = more (next (char / 4096)) (next (char / 64) ∷ next char ∷ []) (omega arith) second in
    cond_both (nat_lt char 128) (char ∷ []) (cond (nat_lt char 2048) (two char) (cond (nat_lt char 65536) (three char) (four char))) (λ l. list_all test l ≡ true)
    (λ small. and_from (test char) true (low (ltb-true char 128 small)) refl)
    (λ _. cond_both (nat_lt char 2048) (two char) (cond (nat_lt char 65536) (three char) (four char)) (λ l. list_all test l ≡ true)
    (λ _. more (192 + char / 64) (next char ∷ []) (omega arith) last)
    (λ _. cond_both (nat_lt char 65536) (three char) (four char) (λ l. list_all test l ≡ true)
    (λ _. more (224 + char / 4096) (next (char / 64) ∷ next char ∷ []) (omega arith) second)
    (λ _. more (240 + char / 262144) (next (char / 4096) ∷ next (char / 64) ∷ next char ∷ []) (omega arith) third)))

-- a character has bytes
pub spelled_some : (char : ℕ) → 0 < length (encode_utf8 char)
spelled_some char = omega (arith, length-encode char, (len_utf8_bounds char).0)

-- bytes that are no sign of a tag
abbrev pub is_content : ℕ → Bool
is_content byte = not (byte == 34) && (not (byte == 60) && not (byte == 62))

pub is_content_from : (byte : ℕ) → byte ≢ 34 → byte ≢ 60 → byte ≢ 62 → is_content byte ≡ true
is_content_from byte no34 no60 no62 = and_from _ _ (is_other byte 34 no34) (and_from _ _ (is_other byte 60 no60) (is_other byte 62 no62))

content_char : (stands : Place) (char : ℕ) → list_all is_content (written_char stands char) ≡ true
unfolding lib.Utf8.encode
content_char stands char =
    by_char (λ w _. list_all is_content w ≡ true) stands char refl refl refl refl refl refl refl refl
    (λ allowed no_markup no_break.
    let apart = no_sign char no_markup in
    spelled_all is_content char (λ byte above. is_content_from byte (λ is. absurd (omega arith)) (λ is. absurd (omega arith)) (λ is. absurd (omega arith)))
    (λ small. is_content_from char apart.3 apart.1 apart.2))

-- what is written of each character passes, so all of it does
pub flat_all : (test : ℕ → Bool) (f : ℕ → List ℕ) → ((char : ℕ) → list_all test (f char) ≡ true) → (chars : List ℕ) → list_all test (flat_map f chars) ≡ true
flat_all test f each [] = refl
flat_all test f each (char ∷ chars) = all_both test (f char) (flat_map f chars) (each char) (flat_all test f each chars)

-- in what is written no sign of a tag stands
pub content_written : (stands : Place) (bytes : List ℕ) → list_all is_content (written stands bytes) ≡ true
content_written stands bytes = flat_all is_content (written_char stands) (content_char stands) (lossy_chars bytes)

-- a character below 32 that is allowed is a tab, a newline or a carriage return
small_allowed : (char : ℕ) → is_xml_char char ≡ true → char ≢ 9 → char ≢ 10 → char ≢ 13 → 32 ≤ char
small_allowed char allowed no9 no10 no13 =
    ⊎_elim
    (λ (small : char < 32).
    let no : is_xml_char char ≡ false =
    or_from _ _ (ne_eqb char 9 no9) (or_from _ _ (ne_eqb char 10 no10) (or_from _ _ (ne_eqb char 13 no13)
    (or_from _ _ (and_left _ _ (lt-leb 0x20 char small))
    (or_from _ _ (and_left _ _ (lt-leb 0xE000 char (omega arith)))
    (and_left _ _ (lt-leb 0x10000 char (omega arith))))))) in
    absurd (true≢false (sym allowed ∙ no)))
    (λ (wide : 32 ≤ char). wide)
    (cases_lt char 32)

-- in a value no control byte stands as it is
wide_char : (char : ℕ) → list_all (nat_le 32) (written_char place.Value char) ≡ true
unfolding lib.Utf8.encode
wide_char char =
    by_char (λ w _. list_all (nat_le 32) w ≡ true) place.Value char refl refl refl refl refl refl refl refl
    (λ allowed no_markup no_break.
    let apart = no_break_sign char no_break in
    spelled_all (nat_le 32) char (λ byte above. le-leb 32 byte (omega arith)) (λ _. le-leb 32 char (small_allowed char allowed apart.0 apart.1 apart.2)))

pub wide_written : (bytes : List ℕ) → list_all (nat_le 32) (written place.Value bytes) ≡ true
wide_written bytes = flat_all (nat_le 32) (written_char place.Value) wide_char (lossy_chars bytes)
