-- Ids: texts that are their own, and those that are made.
use Rattle.std.proofs.Common.{◌≡◌, ℕ, ◌+◌, ◌*◌, ◌/◌, ◌^◌, ◌<◌, ◌≤◌, ◌==◌, Bool, cond, length, length-append, nat_lt, true, false, List, [], ◌∷◌, ◌++◌, map, encode_utf8, encode_utf8_all, refl, sym, ◌∙◌, ap, arith, ⊎_elim, eqb-true, eq-eqb, true≢false}
use Rattle.std.specs.Prelude.{◌≢◌, All}
use Rattle.std.proofs.lemmas.Bool.{cases_Bool}
use Rattle.std.proofs.lemmas.List.{append-nil, drop_at}
use Rattle.std.proofs.lemmas.Str.{encode_ascii}
use Rattle.std.proofs.lemmas.List.Elements.{All-nil, All-cons, All-append, All-head, All-same, All-drop}
use Rattle.bstr.specs.Utf8.{replacement, lossy_chars}
use Rattle.bstr.proofs.lemmas.LossyLemmas.{lossy_chars-front}
use Rattle.bstr.proofs.lemmas.PieceLemmas.{lossy_chars-nil}
use Rattle.bstr.proofs.lemmas.LengthLemmas.{length-lossy_chars}
use Rattle.sub_number.specs.Texts.{IsText}
use Rattle.tap_bridge.specs.Ids.{without_nul, id_from}
use lib.Utf8.{next}

-- the characters of bytes without NUL are none of them NUL
kept : (chars : List ℕ) → All (λ byte. byte ≢ 0) (encode_utf8_all chars) → map without_nul chars ≡ chars
kept [] none = refl
kept (char ∷ chars) none =
    let rest = kept chars (All-same (λ byte. byte ≢ 0) _ _ (sym (drop_at (encode_utf8 char) (encode_utf8_all chars) (length (encode_utf8 char)) refl)) (All-drop (λ byte. byte ≢ 0) (length (encode_utf8 char)) (encode_utf8_all (char ∷ chars)) none)) in
    ⊎_elim
    (λ (nul : (char == 0) ≡ true).
    let is : char ≡ 0 = eqb-true char 0 nul in
    let spelled : 0 ∷ encode_utf8_all chars ≡ encode_utf8_all (char ∷ chars) =
    sym (ap (λ bytes. bytes ++ encode_utf8_all chars) (encode_ascii 0 (omega arith))) ∙ ap (λ c. encode_utf8 c ++ encode_utf8_all chars) (sym is) in
    absurd (All-head (λ byte. byte ≢ 0) 0 (encode_utf8_all chars) (All-same (λ byte. byte ≢ 0) _ _ spelled none) refl))
    (λ (other : (char == 0) ≡ false). λ i. cond (other i) replacement char ∷ rest i)
    (cases_Bool (char == 0))

-- a text is its own id
pub text_is_id : (bytes : List ℕ) → IsText bytes → bytes ≡ id_from bytes
text_is_id bytes text =
    let chars = text.utf8.0 in
    let spelled = text.utf8.1.1 in
    let read : lossy_chars bytes ≡ chars =
    ap lossy_chars (sym (append-nil (encode_utf8_all chars) ∙ spelled)) ∙ lossy_chars-front chars [] text.utf8.1.0 ∙ ap (λ l. chars ++ l) lossy_chars-nil ∙ append-nil chars in
    sym spelled ∙ ap encode_utf8_all (sym (kept chars (All-same (λ byte. byte ≢ 0) _ _ spelled text.no_nul)) ∙ ap (map without_nul) (sym read))

-- The bytes of characters that are not NUL.

either : (P : List ℕ → Type 0) (b : Bool) (xs ys : List ℕ) → P xs → P ys → P (cond b xs ys)
either P true xs ys first second = first
either P false xs ys first second = second

abbrev two : ℕ → List ℕ
two char = (192 + char / 64) ∷ next char ∷ []

abbrev three : ℕ → List ℕ
three char = (224 + char / 4096) ∷ next (char / 64) ∷ next char ∷ []

abbrev four : ℕ → List ℕ
four char = (240 + char / 262144) ∷ next (char / 4096) ∷ next (char / 64) ∷ next char ∷ []

-- what holds of the bytes of each length holds of the bytes of a character
spelled_by : (P : List ℕ → Type 0) (char : ℕ) → P (char ∷ []) → P (two char) → P (three char) → P (four char) → P (encode_utf8 char)
unfolding lib.Utf8.encode
spelled_by P char of_one of_two of_three of_four =
    either P (nat_lt char 128) (char ∷ []) (cond (nat_lt char 2048) (two char) (cond (nat_lt char 65536) (three char) (four char))) of_one
    (either P (nat_lt char 2048) (two char) (cond (nat_lt char 65536) (three char) (four char)) of_two
    (either P (nat_lt char 65536) (three char) (four char) of_three of_four))

no_nul_in : (char : ℕ) → char ≢ 0 → All (λ byte. byte ≢ 0) (encode_utf8 char)
no_nul_in char some =
    let more : (byte : ℕ) (bytes : List ℕ) → 0 < byte → All (λ byte. byte ≢ 0) bytes → All (λ byte. byte ≢ 0) (byte ∷ bytes) = λ byte bytes above rest. All-cons (λ byte. byte ≢ 0) byte bytes (λ is. absurd (omega arith)) rest in
    let none : All (λ byte. byte ≢ 0) [] = All-nil (λ byte. byte ≢ 0) in
    let first : All (λ byte. byte ≢ 0) (next char ∷ []) = more (next char) [] (omega arith) none in
    let second : All (λ byte. byte ≢ 0) (next (char / 64) ∷ next char ∷ []) = more (next (char / 64)) (next char ∷ []) (omega arith) first in
    let third : All (λ byte. byte ≢ 0) (next (char / 4096) ∷ next (char / 64) ∷ next char ∷ []) = more (next (char / 4096)) (next (char / 64) ∷ next char ∷ []) (omega arith) second in
    spelled_by (All (λ byte. byte ≢ 0)) char (All-cons (λ byte. byte ≢ 0) char [] some none)
    (more (192 + char / 64) (next char ∷ []) (omega arith) first)
    (more (224 + char / 4096) (next (char / 64) ∷ next char ∷ []) (omega arith) second)
    (more (240 + char / 262144) (next (char / 4096) ∷ next (char / 64) ∷ next char ∷ []) (omega arith) third)

few_bytes : (char : ℕ) → length (encode_utf8 char) ≤ 4
few_bytes char = spelled_by (λ bytes. length bytes ≤ 4) char (omega arith) (omega arith) (omega arith) (omega arith)

not_nul : (char : ℕ) → without_nul char ≢ 0
not_nul char =
    ⊎_elim
    (λ (nul : (char == 0) ≡ true). λ is. let there : without_nul char ≡ replacement = ap (λ b. cond b replacement char) nul in absurd (omega (arith, there, is)))
    (λ (other : (char == 0) ≡ false). λ is.
    let there : without_nul char ≡ char = ap (λ b. cond b replacement char) other in
    absurd (true≢false (sym (eq-eqb char 0 (sym there ∙ is)) ∙ other)))
    (cases_Bool (char == 0))

none_in : (chars : List ℕ) → All (λ byte. byte ≢ 0) (encode_utf8_all (map without_nul chars))
none_in [] = All-nil (λ byte. byte ≢ 0)
none_in (char ∷ chars) = All-append (λ byte. byte ≢ 0) (encode_utf8 (without_nul char)) (encode_utf8_all (map without_nul chars)) (no_nul_in (without_nul char) (not_nul char)) (none_in chars)

at_most : (chars : List ℕ) → length (encode_utf8_all (map without_nul chars)) ≤ 4 * length chars
at_most [] = omega arith
at_most (char ∷ chars) =
    omega (arith, length-append (encode_utf8 (without_nul char)) (encode_utf8_all (map without_nul chars)), few_bytes (without_nul char), at_most chars)

-- an id has no NUL
pub no_nul : (bytes id : List ℕ) → id ≡ id_from bytes → All (λ byte. byte ≢ 0) id
no_nul bytes id is = All-same (λ byte. byte ≢ 0) _ _ is (none_in (lossy_chars bytes))

-- the id of bytes that are not too many leaves room in a packet
pub is_short : (bytes id : List ℕ) → length bytes < 2 ^ 17 → id ≡ id_from bytes → length id < 2 ^ 20
is_short bytes id short is = omega (arith, ap length is, at_most (lossy_chars bytes), length-lossy_chars bytes)
