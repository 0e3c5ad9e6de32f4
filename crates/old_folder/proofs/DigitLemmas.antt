-- Digits and the numbers that they write.
use Rattle.std.proofs.Common.{◌≡◌, ℕ, ◌+◌, ◌-◌, ◌*◌, ◌^◌, ◌<◌, ◌≤◌, true, List, [], ◌∷◌, length, take, get_or, arith, leb-true, nat_le, suc, zero}
use Rattle.std.proofs.lemmas.Bool.{and_parts}
use Rattle.std.proofs.lemmas.Int.Digits.{digits_value-lt, digits_value_more}
use Rattle.std.proofs.lemmas.Str.{digit_value_digit}
use Rattle.std.proofs.lemmas.Str.Parse.{digits_value-take-le}
use Rattle.std.specs.Char.{is_ascii_digit}
use Rattle.std.specs.Int.{IsInRange}
use Rattle.std.specs.Str.Parse.{digits_value, AllDigits}
use Rattle.old_folder.specs.Olds.{are_digits}
use native.Mathlib.Nat.{pow-le-pow_right}

in_range : (byte : ℕ) → is_ascii_digit byte ≡ true → IsInRange 48 57 byte
in_range byte is =
    let both = and_parts (nat_le 48 byte) (nat_le byte 57) is in
    (leb-true 48 byte both.0, leb-true byte 57 both.1)

pub all_digits : (bytes : List ℕ) → are_digits bytes ≡ true → AllDigits 10 bytes
all_digits [] all = tt
all_digits (byte ∷ bytes) all =
    let both = and_parts (is_ascii_digit byte) (are_digits bytes) all in
    let bounds = in_range byte both.0 in
    let value = digit_value_digit byte bounds in
    let low : 48 ≤ byte = bounds.0 in
    let high : byte ≤ 57 = bounds.1 in
    (omega (arith, value, low, high), all_digits bytes both.1)

-- the digit at a place
pub digit_at : (bytes : List ℕ) (i : ℕ) → are_digits bytes ≡ true → i < length bytes → IsInRange 48 57 (get_or bytes i 0)
digit_at [] i all below = absurd (omega arith)
digit_at (byte ∷ bytes) zero all below = in_range byte (and_parts (is_ascii_digit byte) (are_digits bytes) all).0
digit_at (byte ∷ bytes) (suc i) all below = digit_at bytes i (and_parts (is_ascii_digit byte) (are_digits bytes) all).1 (omega arith)

-- what so few digits write has room to grow
pub room : (bytes : List ℕ) (i : ℕ) → are_digits bytes ≡ true → length bytes ≤ 7 → digits_value 10 (take i bytes) < 10000000
room bytes i all few =
    let most : 10 ^ length bytes ≤ 10000000 = pow-le-pow_right {n = 10} (omega arith) few in
    omega (arith, digits_value-take-le 10 bytes i (omega arith), digits_value-lt 10 bytes (all_digits bytes all), most)

-- one digit more
pub one_more_digit : (bytes : List ℕ) (i digit : ℕ) → are_digits bytes ≡ true → i < length bytes → digit ≡ get_or bytes i 0 → digits_value 10 (take i bytes) * 10 + (digit - 48) ≡ digits_value 10 (take (i + 1) bytes)
one_more_digit bytes i digit all below is =
    let value = digit_value_digit (get_or bytes i 0) (digit_at bytes i all below) in
    let step = digits_value_more 10 bytes i below in
    omega (arith, value, step, is)
