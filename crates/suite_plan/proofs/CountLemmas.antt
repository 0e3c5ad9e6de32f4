-- The number that an output tells, and the digits that write it.
use Rattle.std.proofs.Common.{◌≡◌, ℕ, ◌≤◌, Bool, true, false, List, ◌++◌, length, get_or, None, Result, Ok, inl, inr, arith, nat_le, rules, refl, sym, ap, ◌∙◌, length-append}
use Rattle.std.proofs.lemmas.Bool.{cases_lt}
use Rattle.std.proofs.lemmas.Bool.Decides.{nat_tests}
use Rattle.std.proofs.lemmas.List.{get_or_past}
use Rattle.std.proofs.lemmas.Str.{IsUtf8-from_ascii}
use Rattle.std.proofs.lemmas.Str.Parse.{IsNumeralModel, numerals_by_value, digit_at, parse_gives, digits_value_short}
use Rattle.std.specs.Char.{is_ascii_digit}
use Rattle.std.specs.List.{list_all}
use Rattle.std.specs.Str.{IsUtf8, IsAscii}
use Rattle.std.specs.Str.Parse.{digits_value, AllDigits, ParsesUnsigned}
use Rattle.suite_plan.specs.Calling.{called_number}
use Rattle.suite_plan.specs.Tails.{IsTailOf}
use Rattle.suite_plan.specs.declared.tail.Tail.{Tail}

-- ---- digits

digits : IsNumeralModel (λ ds. list_all is_ascii_digit ds ≡ true) (digits_value 10)
digits = numerals_by_value (λ ds. list_all is_ascii_digit ds ≡ true) (search rules)

-- they are ASCII
pub digits_utf8 : (bytes : List ℕ) → list_all is_ascii_digit bytes ≡ true → IsUtf8 bytes
digits_utf8 bytes all = IsUtf8-from_ascii bytes (below bytes (digits.to bytes all))
  where
    below : (bytes : List ℕ) → AllDigits 10 bytes → IsAscii bytes
    below bytes all i = elim (cases_lt i (length bytes)) [
      | inl less ↦ (let digit = digit_at bytes i all less in let high : get_or bytes i 0 ≤ 57 = digit.1 in omega (arith, high))
      | inr more ↦ omega (arith, get_or_past bytes i 0 more)
    ]

-- so few write a number of 32 bits
pub digits_parsed : {E : Type 0} (bytes : List ℕ) (result : Result ℕ E) → ParsesUnsigned 32 10 bytes result → list_all is_ascii_digit bytes ≡ true → 1 ≤ length bytes → length bytes ≤ 9 → result ≡ Ok (digits_value 10 bytes)
digits_parsed bytes result parsed all some few = parse_gives digits 32 bytes result parsed all (omega (arith, some)) (omega (arith, digits_value_short digits bytes 9 all few))

-- ---- the last bytes

-- Those that are held of an output tell what all of them tell: they are all, or too many as all are.
pub called_tail : (bytes : List ℕ) (tail : Tail) → IsTailOf bytes tail → called_number tail.bytes.items ≡ called_number bytes
called_tail bytes tail has = by tail.cut refl
  where
    none : (bytes : List ℕ) → 65 ≤ length bytes → called_number bytes ≡ None
    none bytes many = let long : nat_le (length bytes) 64 ≡ false = grind (arith, nat_tests, many) in rw long refl

    by : (cut : Bool) → tail.cut ≡ cut → called_number tail.bytes.items ≡ called_number bytes
    by false is = ap called_number (sym (has.whole ∙ ap (λ (l : List ℕ). l ++ tail.bytes.items) (has.all is)))
    by true is = (
        let held = has.cut is in
        none tail.bytes.items (omega (arith, held.1)) ∙ sym (none bytes (omega (arith, held.1, ap length has.whole, length-append has.gone tail.bytes.items)))
        )
