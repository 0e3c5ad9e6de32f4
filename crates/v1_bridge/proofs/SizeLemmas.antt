-- Hexadecimal digits and the numbers that they write.
use Rattle.std.proofs.Common.{◌≡◌, ℕ, zero, suc, ◌+◌, ◌-◌, ◌*◌, ◌^◌, ◌<◌, ◌≤◌, ◌||◌, nat_le, nat_lt, Bool, true, false, refl, ◌∙◌, List, [], ◌∷◌, length, take, get_or, arith, leb-true, lt-ltb, le-ltb}
use Rattle.std.proofs.lemmas.Bool.{and_parts, cond-true, cond-false}
use Rattle.std.proofs.lemmas.Int.Digits.{digits_value-lt, digits_value_more}
use Rattle.std.proofs.lemmas.Str.Parse.{digits_value-take-le}
use Rattle.std.specs.Char.{is_ascii_hexdigit, digit_value}
use Rattle.std.specs.Int.{is_in_range}
use Rattle.std.specs.Str.Parse.{digits_value, AllDigits}
use Rattle.std.specs.List.{list_all}
use Rattle.v1_bridge.specs.Sizes.{are_few_digits}
use native.Mathlib.Nat.{pow-le-pow_right}

pub decimal : (c : ℕ) → 48 ≤ c → c ≤ 57 → digit_value c ≡ c - 48
decimal c low high = cond-false (nat_lt c 48) _ _ (le-ltb c 48 low) ∙ cond-true (nat_lt c 58) _ _ (lt-ltb c 58 (omega arith))

pub upper : (c : ℕ) → 65 ≤ c → c ≤ 70 → digit_value c ≡ c - 55
upper c low high =
    cond-false (nat_lt c 48) _ _ (le-ltb c 48 (omega arith)) ∙ cond-false (nat_lt c 58) _ _ (le-ltb c 58 (omega arith)) ∙ cond-false (nat_lt c 65) _ _ (le-ltb c 65 low) ∙ cond-true (nat_lt c 91) _ _ (lt-ltb c 91 (omega arith))

pub lower : (c : ℕ) → 97 ≤ c → c ≤ 102 → digit_value c ≡ c - 87
lower c low high =
    cond-false (nat_lt c 48) _ _ (le-ltb c 48 (omega arith)) ∙ cond-false (nat_lt c 58) _ _ (le-ltb c 58 (omega arith)) ∙ cond-false (nat_lt c 65) _ _ (le-ltb c 65 (omega arith))
    ∙ cond-false (nat_lt c 91) _ _ (le-ltb c 91 (omega arith)) ∙ cond-false (nat_lt c 97) _ _ (le-ltb c 97 low) ∙ cond-true (nat_lt c 123) _ _ (lt-ltb c 123 (omega arith))

-- the byte is a digit, or a letter of one of the two cases
pub data IsHex (c : ℕ) : Type 0 where
  of_digit : 48 ≤ c → c ≤ 57 → IsHex c
  of_upper : 65 ≤ c → c ≤ 70 → IsHex c
  of_lower : 97 ≤ c → c ≤ 102 → IsHex c

pub hex_kind : (c : ℕ) → is_ascii_hexdigit c ≡ true → IsHex c
hex_kind c is = by_case (is_in_range 48 57 c) (is_in_range 65 70 c) (is_in_range 97 102 c) refl refl refl is
  where
    by_case : (a b d : Bool) → is_in_range 48 57 c ≡ a → is_in_range 65 70 c ≡ b → is_in_range 97 102 c ≡ d → ((a || b) || d) ≡ true → IsHex c
    by_case true b d first second third all = let both = and_parts (nat_le 48 c) (nat_le c 57) first in of_digit (leb-true 48 c both.0) (leb-true c 57 both.1)
    by_case false true d first second third all = let both = and_parts (nat_le 65 c) (nat_le c 70) second in of_upper (leb-true 65 c both.0) (leb-true c 70 both.1)
    by_case false false true first second third all = let both = and_parts (nat_le 97 c) (nat_le c 102) third in of_lower (leb-true 97 c both.0) (leb-true c 102 both.1)
    by_case false false false first second third all = cc

below_16 : (c : ℕ) → IsHex c → digit_value c < 16
below_16 c (of_digit low high) = omega (arith, decimal c low high)
below_16 c (of_upper low high) = omega (arith, upper c low high)
below_16 c (of_lower low high) = omega (arith, lower c low high)

all_digits : (bytes : List ℕ) → list_all is_ascii_hexdigit bytes ≡ true → AllDigits 16 bytes
all_digits [] all = tt
all_digits (byte ∷ bytes) all =
    let both = and_parts (is_ascii_hexdigit byte) (list_all is_ascii_hexdigit bytes) all in
    (below_16 byte (hex_kind byte both.0), all_digits bytes both.1)

-- the digit at a place
pub digit_at : (bytes : List ℕ) (i : ℕ) → list_all is_ascii_hexdigit bytes ≡ true → i < length bytes → is_ascii_hexdigit (get_or bytes i 0) ≡ true
digit_at [] i all below = absurd (omega arith)
digit_at (byte ∷ bytes) zero all below = (and_parts (is_ascii_hexdigit byte) (list_all is_ascii_hexdigit bytes) all).0
digit_at (byte ∷ bytes) (suc i) all below = digit_at bytes i (and_parts (is_ascii_hexdigit byte) (list_all is_ascii_hexdigit bytes) all).1 (omega arith)

-- one digit more
pub one_more_digit : (bytes : List ℕ) (i value : ℕ) → i < length bytes → value ≡ digit_value (get_or bytes i 0) → digits_value 16 (take i bytes) * 16 + value ≡ digits_value 16 (take (i + 1) bytes)
one_more_digit bytes i value below is = let step = digits_value_more 16 bytes i below in omega (arith, step, is)

-- what so few digits write fits, with one digit more
pub room : (bytes : List ℕ) (i value : ℕ) → list_all is_ascii_hexdigit bytes ≡ true → length bytes ≤ 8 → i < length bytes → value ≡ digit_value (get_or bytes i 0) → digits_value 16 (take i bytes) * 16 + value < 4294967296
room bytes i value all few below is =
    let most : 16 ^ length bytes ≤ 4294967296 = pow-le-pow_right {n = 16} (omega arith) few in
    let step = one_more_digit bytes i value below is in
    omega (arith, step, digits_value-take-le 16 bytes (i + 1) (omega arith), digits_value-lt 16 bytes (all_digits bytes all), most)

pub few_are : (bytes : List ℕ) → are_few_digits bytes ≡ true → (length bytes ≤ 8) × (list_all is_ascii_hexdigit bytes ≡ true)
few_are bytes is =
    let both = and_parts (nat_le (length bytes) 8) (list_all is_ascii_hexdigit bytes) is in
    (leb-true (length bytes) 8 both.0, both.1)
