-- Numbers and times as they are written.
use Rattle.std.proofs.Common.{◌≡◌, ℕ, zero, suc, ◌+◌, ◌/◌, ◌%◌, ◌^◌, ◌<◌, ◌≤◌, Bool, true, false, nat_lt, List, [], ◌∷◌, ◌++◌, length, None, Some, refl, sym, ◌∙◌, ap, subst, arith}
use Rattle.std.specs.Prelude.{Option, codes, ◌&&◌, ◌==◌, nat_le}
use Rattle.std.specs.Char.{is_ascii_digit}
use Rattle.std.specs.Fmt.{decimal, digits, digits_onto, digit_glyph}
use Rattle.std.specs.List.{list_all}
use Rattle.std.specs.Option.{unwrap_or}
use Rattle.std.specs.Str.Parse.{digits_value}
use Rattle.std.proofs.lemmas.Bool.{cond-true, cond_both, and_from, lt-ltb, le-leb}
use Rattle.std.proofs.lemmas.Fmt.{decimal_is_IsNumeral, decimal_nonempty}
use Rattle.sub_number.specs.Seconds.{millis_of, three_digits, printed_seconds}
use Rattle.junit_xml.specs.Seconds.{seconds_text}
use Rattle.junit_xml.specs.Reading.{read_number}
use Rattle.junit_xml.proofs.Cuts.{all_both}

glyph_passes : (test : ℕ → Bool) → ((digit : ℕ) → digit < 10 → test (48 + digit) ≡ true) → (n : ℕ) → test (digit_glyph false (n % 10)) ≡ true
glyph_passes test each n = subst (λ g. test g ≡ true) (sym (cond-true (nat_lt (n % 10) 10) (48 + n % 10) (87 + n % 10) (lt-ltb (n % 10) 10 (omega arith)))) (each (n % 10) (omega arith))

onto_passes : (test : ℕ → Bool) → ((digit : ℕ) → digit < 10 → test (48 + digit) ≡ true) → (k n : ℕ) (acc : List ℕ) → list_all test acc ≡ true → list_all test (digits_onto k 10 false n acc) ≡ true
onto_passes test each zero n acc all = all
onto_passes test each (suc k) n acc all =
    let glyph : list_all test (digit_glyph false (n % 10) ∷ acc) ≡ true = and_from (test (digit_glyph false (n % 10))) (list_all test acc) (glyph_passes test each n) all in
    cond_both (n / 10 == 0) (digit_glyph false (n % 10) ∷ acc) (digits_onto k 10 false (n / 10) (digit_glyph false (n % 10) ∷ acc)) (λ l. list_all test l ≡ true)
    (λ _. glyph) (λ _. onto_passes test each k (n / 10) (digit_glyph false (n % 10) ∷ acc) glyph)

-- a number is digits
pub decimal_all : (test : ℕ → Bool) → ((digit : ℕ) → digit < 10 → test (48 + digit) ≡ true) → (n : ℕ) → list_all test (decimal n) ≡ true
unfolding digits
decimal_all test each n = onto_passes test each 64 n [] refl

three_all : (test : ℕ → Bool) → ((digit : ℕ) → digit < 10 → test (48 + digit) ≡ true) → (n : ℕ) → n < 1000 → list_all test (three_digits n) ≡ true
three_all test each n small = and_from _ _ (each (n / 100) (omega arith)) (and_from _ _ (each (n / 10 % 10) (omega arith)) (and_from _ _ (each (n % 10) (omega arith)) refl))

-- a time is digits and a point
pub seconds_all : (test : ℕ → Bool) → ((digit : ℕ) → digit < 10 → test (48 + digit) ≡ true) → test 46 ≡ true → (nanos : Option ℕ) → list_all test (seconds_text nanos) ≡ true
seconds_all test each point nanos =
    let n = unwrap_or nanos 0 in
    all_both test (decimal (millis_of n / 1000) ++ codes ".") (three_digits (millis_of n % 1000))
    (all_both test (decimal (millis_of n / 1000)) (codes ".") (decimal_all test each (millis_of n / 1000)) (and_from (test 46) true point refl))
    (three_all test each (millis_of n % 1000) (omega arith))

-- a number is read back
pub number_read : (n : ℕ) → n < 2 ^ 64 → read_number (decimal n) ≡ Some n
number_read n small =
    let is_number : (nat_le 1 (length (decimal n)) && list_all is_ascii_digit (decimal n)) ≡ true =
    and_from _ _ (le-leb 1 (length (decimal n)) (decimal_nonempty n small)) (decimal_all is_ascii_digit (λ digit low. and_from _ _ (le-leb 48 (48 + digit) (omega arith)) (le-leb (48 + digit) 57 (omega arith))) n) in
    cond-true (nat_le 1 (length (decimal n)) && list_all is_ascii_digit (decimal n)) (Some (digits_value 10 (decimal n))) None is_number ∙ ap Some (decimal_is_IsNumeral n small).1
