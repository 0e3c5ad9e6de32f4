-- The header that some bytes begin with.
use Rattle.std.proofs.Common.{◌≡◌, ℕ, ◌+◌, ◌≤◌, ◌<◌, List, [], ◌∷◌, ◌++◌, length, get_or, take, drop, refl, sym, ap, ◌∙◌, arith}
use Rattle.std.proofs.lemmas.List.{take_at, length-append, get_or-drop}
use Rattle.sub_number.specs.Numbers.{BeginsWithNumber, BeginsWithNoNumber}
use Rattle.sub_number.proofs.NumberLemmas.{AreBytes, same_number}
use Rattle.packet_codec.specs.Packet.{signature}
use Rattle.packet_codec.specs.Grammar.{SpellsFront, NotFound}
use Rattle.packet_codec.specs.Shapes.{HeaderShape}
use Rattle.packet_codec.proofs.GrammarLemmas.{IsPrefixFree, number_free, are_rest}

pub header_free : IsPrefixFree HeaderShape
header_free f r f' r' a a' are are' e s s' =
    let split : signature ∷ a.0 ∷ a.1.0 ∷ (s.number ++ r) ≡ signature ∷ a'.0 ∷ a'.1.0 ∷ (s'.number ++ r') = ap (λ (l : List ℕ). l ++ r) (sym s.parts) ∙ e ∙ ap (λ (l : List ℕ). l ++ r') s'.parts in
    let first : a.0 ≡ a'.0 = ap (λ (l : List ℕ). get_or l 1 0) split in
    let second : a.1.0 ≡ a'.1.0 = ap (λ (l : List ℕ). get_or l 2 0) split in
    let tail : s.number ++ r ≡ s'.number ++ r' = ap (drop 3) split in
    let one = number_free s.number r s'.number r' a.1.1 a'.1.1 (are_rest (signature ∷ a.0 ∷ a.1.0 ∷ []) s.number (rw (s.parts) at are)) (are_rest (signature ∷ a'.0 ∷ a'.1.0 ∷ []) s'.number (rw (s'.parts) at are')) tail s.size_spelled s'.size_spelled in
    let number = one.front in
    let size = one.value in
    record {
      front = s.parts ∙ rw (first, second, number) refl ∙ sym s'.parts;
      rest = one.rest;
      value = ap (λ (x : ℕ). (x, a.1)) first ∙ ap (λ (x : ℕ). (a'.0, (x, a.1.1))) second ∙ ap (λ (x : ℕ). (a'.0, (a'.1.0, x))) size;
    }

-- the size that it tells is a number behind three bytes
size_begins : (bytes rest : List ℕ) (v : ℕ × (ℕ × ℕ)) → (s : SpellsFront HeaderShape bytes v rest) → BeginsWithNumber (drop 3 bytes) 3 v.1.1 (length s.spelled.number) × (length s.spelled.number + 7 ≤ v.1.1)
size_begins bytes rest v s =
    let whole : bytes ≡ signature ∷ v.0 ∷ v.1.0 ∷ (s.spelled.number ++ rest) = s.parts ∙ ap (λ (l : List ℕ). l ++ rest) s.spelled.parts in
    let behind : drop 3 bytes ≡ s.spelled.number ++ rest = ap (drop 3) whole in
    let front : take (length s.spelled.number) (drop 3 bytes) ≡ s.spelled.number = ap (take (length s.spelled.number)) behind ∙ take_at s.spelled.number rest (length s.spelled.number) refl in
    let len : length s.front ≡ length s.spelled.number + 3 = ap length s.spelled.parts ∙ omega arith in
    (record { in_range = omega (arith, ap length behind, length-append s.spelled.number rest); narrow = s.spelled.size_short; spells = rw front s.spelled.size_spelled }, omega (arith, s.spelled.room))

pub no_size : (bytes number : List ℕ) → number ≡ drop 3 bytes → BeginsWithNoNumber number 3 → NotFound HeaderShape bytes
no_size bytes number is none v rest s = none v.1.1 (length s.spelled.number) (rw is (size_begins bytes rest v s).0)

pub no_room : (bytes number : List ℕ) (size width : ℕ) → number ≡ drop 3 bytes → AreBytes bytes → BeginsWithNumber number 3 size width → size < 3 + width + 4 → NotFound HeaderShape bytes
no_room bytes number size width is are begins less v rest s =
    let begins' = size_begins bytes rest v s in
    let are_behind : AreBytes (drop 3 bytes) = λ i. rw get_or-drop (are (3 + i)) in
    let same = same_number (drop 3 bytes) 3 v.1.1 (length s.spelled.number) size width are_behind begins'.0 (rw is at begins) in
    omega (arith, begins'.1, same.0, same.1)
