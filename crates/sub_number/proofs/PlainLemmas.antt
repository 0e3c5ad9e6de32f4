-- Bytes that are ASCII without NUL: many in one step, and that they are a text.
use Rattle.std.proofs.Common.{◌≡◌, ℕ, ◌+◌, ◌-◌, ◌%◌, ◌^◌, ◌<◌, ◌≤◌, List, [], ◌∷◌, Bool, true, false, cond, leb, length, get_or, map, replicate, Fits, w8, IsTrue, All, inl, inr, ◌∙◌, ap, arith}
use Rattle.std.specs.Prelude.{not, nat_eq, nat_lt, ◌&&◌}
use Rattle.std.specs.List.{list_all}
use Rattle.std.specs.Simd.Lanes.{zip2, mask_l, top, chunk}
use Rattle.std.proofs.lemmas.Bool.{cases_lt, leb-false, ltb-true, and_parts}
use Rattle.std.proofs.lemmas.Bool.Decides.{nat_tests}
use Rattle.std.proofs.lemmas.List.{length-map, get_or_past}
use Rattle.std.proofs.lemmas.List.Elements.{All-cons, All-nil}
use Rattle.std.proofs.lemmas.Simd.{length-chunk, map-map, mask_l-mod, none_from_empty_mask, tops_compared, zip2_splat, zip2_splat_left}
use Rattle.std.proofs.lemmas.Str.{IsUtf8-from_ascii}
use Rattle.sub_number.specs.Texts.{IsPlain, ArePlain, IsText, IsShortText}

-- a byte less one, where NUL becomes the highest
abbrev lowered : ℕ → ℕ
lowered byte = (byte + (2 ^ 8 - 1)) % 2 ^ 8

abbrev is_high : ℕ → Bool
is_high byte = leb 127 (lowered byte)

plain_unless_high : (byte : ℕ) → byte < 256 → is_high byte ≡ false → IsPlain byte
plain_unless_high byte small not_high =
    let low : lowered byte < 127 = leb-false 127 (lowered byte) not_high in
    (omega (arith, low, small), omega (arith, low, small))

-- the mask of so many lanes says which of them are high
abbrev lanes_mask : List ℕ → ℕ → ℕ
lanes_mask lanes n =
    mask_l (map (top 7) (zip2 (λ a b. cond (leb a b) (2 ^ 8 - 1) 0) (replicate n 127) (zip2 (λ a b. (a + (2 ^ 8 - b)) % 2 ^ 8) lanes (replicate n 1)))) % 2 ^ 64

mask_of_high : (lanes : List ℕ) (n : ℕ) → length lanes ≡ n → n ≤ 64 → lanes_mask lanes n ≡ mask_l (map is_high lanes)
mask_of_high lanes n long few =
    ap (λ ls. mask_l (map (top 7) (zip2 (λ a b. cond (leb a b) (2 ^ 8 - 1) 0) (replicate n 127) ls)) % 2 ^ 64) (zip2_splat (λ a b. (a + (2 ^ 8 - b)) % 2 ^ 8) lanes n 1 long)
    ∙ ap (λ ms. mask_l ms % 2 ^ 64) (tops_compared w8 leb (replicate n 127) (map lowered lanes) ∙ zip2_splat_left leb 127 n (map lowered lanes) (length-map lanes lowered ∙ long) ∙ map-map (leb 127) lowered lanes)
    ∙ mask_l-mod (map is_high lanes) 64 (omega (arith, length-map lanes is_high))

is_none : (mask : ℕ) → IsTrue (not (not (nat_eq mask 0))) → mask ≡ 0
is_none mask none = grind (arith, nat_tests)

pub plain_from_lanes : (bytes : List ℕ) (start n : ℕ) → n ≤ 64 → start + n ≤ length bytes → ((i : ℕ) → Fits w8 (get_or bytes i 0)) → IsTrue (not (not (nat_eq (lanes_mask (chunk start n bytes) n) 0))) → ArePlain bytes start (start + n)
plain_from_lanes bytes start n few room are none k from below =
    let empty : mask_l (map is_high (chunk start n bytes)) ≡ 0 = omega (arith, is_none (lanes_mask (chunk start n bytes) n) none, mask_of_high (chunk start n bytes) n (length-chunk start n bytes room) few) in
    plain_unless_high (get_or bytes k 0) (omega (arith, are k)) (none_from_empty_mask is_high bytes start n 0 room empty k from below)

-- they are a text
pub text_from_plain : (bytes : List ℕ) → All IsPlain bytes → IsText bytes
text_from_plain bytes plain = record {
  utf8 = IsUtf8-from_ascii bytes (λ i. elim (cases_lt i (length bytes)) [
    | inl below ↦ omega (arith, (plain i 0 below).1)
    | inr past ↦ omega (arith, get_or_past bytes i 0 past)
  ]);
  no_nul = λ k d below nul. omega (arith, (plain k d below).0, nul);
}

are_plain : (bytes : List ℕ) → list_all (λ byte. nat_lt 0 byte && nat_lt byte 128) bytes ≡ true → All IsPlain bytes
are_plain [] all = All-nil IsPlain
are_plain (byte ∷ bytes) all =
    let parts = and_parts (nat_lt 0 byte && nat_lt byte 128) (list_all (λ b. nat_lt 0 b && nat_lt b 128) bytes) all in
    let both = and_parts (nat_lt 0 byte) (nat_lt byte 128) parts.0 in
    All-cons IsPlain byte bytes (omega (arith, ltb-true 0 byte both.0), ltb-true byte 128 both.1) (are_plain bytes parts.1)

-- a text that is written out in the code: the test computes
pub written_text : (bytes : List ℕ) → (list_all (λ byte. nat_lt 0 byte && nat_lt byte 128) bytes && nat_lt (length bytes) (2 ^ 30)) ≡ true → IsShortText bytes
written_text bytes tested =
    let parts = and_parts (list_all (λ byte. nat_lt 0 byte && nat_lt byte 128) bytes) (nat_lt (length bytes) (2 ^ 30)) tested in
    record { text = text_from_plain bytes (are_plain bytes parts.0); short = ltb-true (length bytes) (2 ^ 30) parts.1 }
