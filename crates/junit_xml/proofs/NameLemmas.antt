-- The two names of a test, where they are cut, and the id that they make.
use Rattle.std.proofs.Common.{◌≡◌, ℕ, suc, ◌+◌, ◌-◌, ◌<◌, ◌≤◌, Bool, true, false, cond, List, [], ◌∷◌, ◌++◌, length, take, drop, map, get_or, slice_index, reverse, None, Some, encode_utf8, encode_utf8_all, refl, sym, ◌∙◌, ap, subst, arith, ⊎_elim}
use Rattle.std.specs.Prelude.{Option, codes, not, ◌==◌, MatchOption}
use Rattle.std.specs.List.{before_first, before_last, suffix_len, position_or_len, prefix_len}
use Rattle.std.proofs.lemmas.Bool.{cases_Bool, cond-true, cond-false, eqb-true, eq-eqb, ne_eqb, not_from_true, not_from_false, not-false, false_from_ne_true}
use Rattle.std.proofs.lemmas.List.{take_all, take-append-drop, length-take, length-reverse, get_or-reverse, get_or-take, drop_more, append-nil, drop_at}
use Rattle.std.proofs.lemmas.List.{length-append, map-append, append_assoc}
use Rattle.std.proofs.lemmas.Bool.Decides.{nat_tests}
use Rattle.std.proofs.lemmas.Str.{encode_ascii}
use Rattle.std.proofs.lemmas.List.Sums.{position_or_len_is, suffix_len_is, suffix_len-le-length, passes_at_first}
use Rattle.memchr.specs.Find.{IsFirstByte, IsLastByte, is_byte, is_byte2, NoneBefore, NoneAfter}
use Rattle.bstr.specs.Utf8.{lossy_chars, or_replacement, decoded, pieces}
use Rattle.bstr.proofs.lemmas.PieceLemmas.{StartsClean, pieces-append, lossy_chars-step, lossy_chars-nil}
use Rattle.bstr.proofs.lemmas.LossyLemmas.{lossy_chars-front}
use Rattle.junit_xml.specs.Characters.{shown_char, shown_utf8}
use Rattle.junit_xml.specs.Documents.{is_point, is_opening, front_of, class_size, class_of, case_name}
use Rattle.junit_xml.specs.Reading.{id_with}
use Rattle.junit_xml.proofs.CharacterLemmas.{spelled_some}

-- Where a search stops.

-- what stands before the first byte that passes
pub before_found : (p : ℕ → Bool) (xs : List ℕ) (place : ℕ) → IsFirstByte p xs (Some place) → take place xs ≡ before_first p xs
before_found p xs place found =
    ap (λ n. take n xs) (sym (position_or_len_is p xs place 0 (omega (arith, found.0.high)) (λ k below. false_from_ne_true (p (get_or xs k 0)) (found.0.before k (omega arith) below)) (λ _. found.1)))

-- all, where none does
pub before_none : (p : ℕ → Bool) (xs : List ℕ) → IsFirstByte p xs None → xs ≡ before_first p xs
before_none p xs none =
    sym (take_all (position_or_len p xs) xs (omega (arith, position_or_len_is p xs (length xs) 0 (omega arith) (λ k below. false_from_ne_true (p (get_or xs k 0)) (none k (omega arith) below)) (λ past. absurd (omega arith)))))

-- how many bytes stand before the last byte that passes
pub last_found : (p : ℕ → Bool) (xs : List ℕ) (place : ℕ) → IsLastByte p xs (Some place) → place ≡ length (before_last p xs)
last_found p xs place found =
    let behind : suffix_len (λ x. not (p x)) xs ≡ length xs - (place + 1) =
    suffix_len_is (λ x. not (p x)) xs (place + 1) 0 (omega (arith, found.0.high))
    (λ k above below. not_from_false (p (get_or xs k 0)) (false_from_ne_true (p (get_or xs k 0)) (found.0.after k above below)))
    (λ _. subst (λ n. not (p (get_or xs n 0)) ≡ false) (omega arith) (not_from_true (p (get_or xs place 0)) found.1)) in
    omega (arith, behind, found.0.high, length-take (length xs - suffix_len (λ x. not (p x)) xs - 1) xs)

-- none, where none does
pub last_none : (p : ℕ → Bool) (xs : List ℕ) → IsLastByte p xs None → 0 ≡ length (before_last p xs)
last_none p xs none =
    let behind : suffix_len (λ x. not (p x)) xs ≡ length xs - 0 =
    suffix_len_is (λ x. not (p x)) xs 0 0 (omega arith)
    (λ k above below. not_from_false (p (get_or xs k 0)) (false_from_ne_true (p (get_or xs k 0)) (none k above below)))
    (λ past. absurd (omega arith)) in
    omega (arith, behind, length-take (length xs - suffix_len (λ x. not (p x)) xs - 1) xs)

-- The point.

-- where bytes stand before the last byte that passes, it passes
last_passes : (p : ℕ → Bool) (xs : List ℕ) → 0 < length (before_last p xs) → p (get_or xs (length (before_last p xs)) 0) ≡ true
last_passes p xs some =
    let behind = suffix_len (λ x. not (p x)) xs in
    let size : length (before_last p xs) ≡ length xs - 1 - behind = omega (arith, length-take (length xs - behind - 1) xs) in
    let within : behind < length xs = omega (arith, length-take (length xs - behind - 1) xs) in
    let at : p (get_or (reverse xs) behind 0) ≡ true = passes_at_first p (reverse xs) 0 (omega (arith, length-reverse xs)) in
    subst (λ n. p (get_or xs n 0) ≡ true) (sym size) (subst (λ x. p x ≡ true) (get_or-reverse xs behind 0 within) at)

-- the class is a part of the id, with a byte behind it
pub class_within : (id : List ℕ) → (0 < class_size id → class_size id < length id) × (class_size id ≤ length id)
class_within id =
    let front = front_of id in
    let behind = suffix_len (λ x. not (is_point x)) front in (
      λ some. omega (arith, length-take (length front - behind - 1) front, length-take (position_or_len is_opening id) id),
      omega (arith, length-take (length front - behind - 1) front, length-take (position_or_len is_opening id) id),
    )

point_at : (id : List ℕ) → 0 < class_size id → get_or id (class_size id) 0 ≡ 46
point_at id some =
    let front = front_of id in
    let size = class_size id in
    let within : size < length front = omega (arith, length-take (length front - suffix_len (λ x. not (is_point x)) front - 1) front) in
    let here : get_or front size 0 ≡ 46 = eqb-true (get_or front size 0) 46 (last_passes is_point front some) in
    let stands : size < position_or_len is_opening id = omega (arith, within, length-take (position_or_len is_opening id) id) in
    sym (get_or-take (position_or_len is_opening id) id size 0 stands) ∙ here

-- an id is its class, a point and its name
parted : (id : List ℕ) → 0 < class_size id → id ≡ class_of id ++ 46 ∷ drop (class_size id + 1) id
parted id some =
    let size = class_size id in
    sym (take-append-drop size id) ∙ ap (λ l. take size id ++ l) (drop_more id size 0 ((class_within id).0 some) ∙ ap (λ b. b ∷ drop (size + 1) id) (point_at id some))

-- What is shown of the parts.

lossy_append : (xs ys : List ℕ) → StartsClean ys → lossy_chars (xs ++ ys) ≡ lossy_chars xs ++ lossy_chars ys
lossy_append xs ys clean = ap (map (λ p. or_replacement p.char)) (pieces-append (length xs) xs ys (omega arith) clean) ∙ map-append (λ p. or_replacement p.char) (pieces xs) (pieces ys)

pub encoded_append : (xs ys : List ℕ) → encode_utf8_all (xs ++ ys) ≡ encode_utf8_all xs ++ encode_utf8_all ys
encoded_append [] ys = refl
encoded_append (x ∷ xs) ys = ap (λ t. encode_utf8 x ++ t) (encoded_append xs ys) ∙ sym (append_assoc (encode_utf8 x) (encode_utf8_all xs) (encode_utf8_all ys))

shown_parted : (class name : List ℕ) → shown_utf8 (class ++ 46 ∷ name) ≡ shown_utf8 class ++ 46 ∷ shown_utf8 name
unfolding lib.Utf8.encode
shown_parted class name =
    let point : lossy_chars (46 ∷ name) ≡ 46 ∷ lossy_chars name =
    ap (λ l. lossy_chars (l ++ name)) (sym (encode_ascii 46 (omega arith))) ∙ lossy_chars-front (46 ∷ []) name refl in
    let chars : lossy_chars (class ++ 46 ∷ name) ≡ lossy_chars class ++ 46 ∷ lossy_chars name =
    lossy_append class (46 ∷ name) (λ _. refl) ∙ ap (λ l. lossy_chars class ++ l) point in
    ap (λ l. encode_utf8_all (map shown_char l)) chars
    ∙ ap encode_utf8_all (map-append shown_char (lossy_chars class) (46 ∷ lossy_chars name))
    ∙ encoded_append (map shown_char (lossy_chars class)) (46 ∷ map shown_char (lossy_chars name))
    ∙ ap (λ l. shown_utf8 class ++ (l ++ shown_utf8 name)) (encode_ascii 46 (omega arith))

shown_some : (bytes : List ℕ) → 0 < length bytes → 0 < length (shown_utf8 bytes)
shown_some bytes some =
    let step = lossy_chars-step bytes some in
    let first = shown_char (or_replacement (decoded bytes).char) in
    let rest = encode_utf8_all (map shown_char (lossy_chars (drop (decoded bytes).size bytes))) in
    let is : shown_utf8 bytes ≡ encode_utf8 first ++ rest = ap (λ l. encode_utf8_all (map shown_char l)) step in
    omega (arith, ap length is, length-append (encode_utf8 first) rest, spelled_some first)

-- the two names make the id
pub id_back : (id : List ℕ) → id_with (shown_utf8 (class_of id)) (shown_utf8 (case_name id)) ≡ shown_utf8 id
id_back id =
    ⊎_elim
    (λ (none : (class_size id == 0) ≡ true).
    let empty : class_of id ≡ [] = ap (λ n. take n id) (eqb-true (class_size id) 0 none) in
    let nothing : shown_utf8 (class_of id) ≡ [] = ap shown_utf8 empty ∙ ap (λ l. encode_utf8_all (map shown_char l)) lossy_chars-nil in
    let whole : case_name id ≡ id = cond-true (class_size id == 0) id (drop (class_size id + 1) id) none in
    ap (λ l. id_with l (shown_utf8 (case_name id))) nothing ∙ ap shown_utf8 whole)
    (λ (no : (class_size id == 0) ≡ false).
    let some : 0 < class_size id = grind (arith, nat_tests) in
    let part : case_name id ≡ drop (class_size id + 1) id = cond-false (class_size id == 0) id (drop (class_size id + 1) id) no in
    let longer : 0 < length (shown_utf8 (class_of id)) = shown_some (class_of id) (omega (arith, length-take (class_size id) id, (class_within id).0 some)) in
    cond-false (length (shown_utf8 (class_of id)) == 0) (shown_utf8 (case_name id)) (shown_utf8 (class_of id) ++ codes "." ++ shown_utf8 (case_name id)) (ne_eqb (length (shown_utf8 (class_of id))) 0 (λ is. absurd (omega arith)))
    ∙ append_assoc (shown_utf8 (class_of id)) (codes ".") (shown_utf8 (case_name id))
    ∙ ap (λ l. shown_utf8 (class_of id) ++ 46 ∷ shown_utf8 l) part
    ∙ sym (shown_parted (class_of id) (drop (class_size id + 1) id)) ∙ sym (ap shown_utf8 (parted id some)))
    (cases_Bool (class_size id == 0))
