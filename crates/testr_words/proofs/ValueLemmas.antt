-- What the options with a value say.
use Rattle.std.proofs.Common.{◌≡◌, ◌<◌, ◌≤◌, ◌^◌, ℕ, Bool, true, false, List, [], ◌∷◌, map, length, Option, None, Some, Result, Ok, Err, inl, inr, refl, sym, ap, ◌∙◌, rules, arith}
use Rattle.std.specs.Prelude.{◌&&◌, ◌||◌, ◌==◌, not, nat_le, nat_eq}
use Rattle.std.specs.Char.{is_ascii_digit}
use Rattle.std.specs.Fmt.{decimal}
use Rattle.std.specs.List.{list_all, flat_map}
use Rattle.std.specs.Str.{bytes_eq}
use Rattle.std.specs.Str.Parse.{digits_value, ParsesUnsigned}
use Rattle.std.proofs.lemmas.Bool.{cond-true, cond-false, le-leb, leb-true, and_parts, and_from, false_from_ne_true, cases_lt}
use Rattle.std.proofs.lemmas.Fmt.{decimal_is_IsNumeral}
use Rattle.std.proofs.lemmas.List.Folds.{list_all-append}
use Rattle.std.proofs.lemmas.Slice.Eq.{bytes_eq-Decides}
use Rattle.std.proofs.lemmas.Str.Parse.{IsNumeralModel, numerals_by_value, parse_gives}
use Rattle.std.specs.Option.{option_to_list}
use Rattle.command_words.specs.Code.{item_meant}
use Rattle.command_words.specs.declared.item.Item as code
use Rattle.command_words.specs.Items.{value_of, values_in}
use Rattle.testr_words.specs.Words.{concurrency_word, last_of, is_number, number_up_to, is_decimal, count_or_zero, workers_in}

module _ (most : ℕ) (small : most < 2 ^ 32) where
  -- what is written as a number up to this tells that number
  pub tells : (value : List ℕ) (number : ℕ) → number ≤ most → value ≡ decimal number → Some number ≡ number_up_to most value
  tells value number few is =
      let same : digits_value 10 value ≡ number = ap (digits_value 10) is ∙ (decimal_is_IsNumeral number (omega (arith, few, small))).1 in
      let written : bytes_eq value (decimal (digits_value 10 value)) ≡ true = (bytes_eq-Decides value (decimal (digits_value 10 value))).1 (is ∙ ap decimal (sym same)) in
      let fits : nat_le (digits_value 10 value) most ≡ true = le-leb (digits_value 10 value) most (omega (arith, same, few)) in
      let counts : is_number most value ≡ true = and_from (bytes_eq value (decimal (digits_value 10 value))) (nat_le (digits_value 10 value) most) written fits in
      ap Some (sym same) ∙ sym (cond-true (is_number most value) (Some (digits_value 10 value)) None counts)

  -- and what is written as no such number tells none
  pub tells_none : (value : List ℕ) → ((number : ℕ) → number ≤ most → value ≡ decimal number → ⊥) → None ≡ number_up_to most value
  tells_none value other =
      let counts_not : is_number most value ≡ false = false_from_ne_true (is_number most value) (λ counts.
      let parts = and_parts (bytes_eq value (decimal (digits_value 10 value))) (nat_le (digits_value 10 value) most) counts in
      other (digits_value 10 value) (leb-true (digits_value 10 value) most parts.1) ((bytes_eq-Decides value (decimal (digits_value 10 value))).0 parts.0)) in
      sym (cond-false (is_number most value) (Some (digits_value 10 value)) None counts_not)

-- each of all is fit where those of each item are
pub all_of_each : {A B C : Type 0} (p : C → Bool) (f : B → List C) (g : A → B) (xs : List A) → list_all p (flat_map f (map g xs)) ≡ list_all (λ x. list_all p (f (g x))) xs
all_of_each p f g [] = refl
all_of_each p f g (x ∷ xs) = list_all-append p (f (g x)) (flat_map f (map g xs)) ∙ ap (λ b. list_all p (f (g x)) && b) (all_of_each p f g xs)

module _ (items : List code.Item) (all : Bool) (is : all ≡ list_all (λ item. list_all is_decimal (option_to_list (value_of concurrency_word (item_meant item)))) items) where
  whole : list_all is_decimal (values_in concurrency_word (map item_meant items)) ≡ all
  whole = all_of_each is_decimal (λ item. option_to_list (value_of concurrency_word item)) item_meant items ∙ sym is

  -- one of the values is no number
  pub none_counted : all ≡ false → None ≡ workers_in (map item_meant items)
  none_counted not_all = sym (cond-false (list_all is_decimal (values_in concurrency_word (map item_meant items))) (count_or_zero (last_of (values_in concurrency_word (map item_meant items)))) None (whole ∙ not_all))

  -- each is one, and the last of them stands
  pub last_counts : all ≡ true → (last : Option (List ℕ)) (answer : Option ℕ) → last ≡ last_of (values_in concurrency_word (map item_meant items)) → answer ≡ count_or_zero last → answer ≡ workers_in (map item_meant items)
  last_counts each last answer stands counts =
      counts ∙ ap count_or_zero stands
      ∙ sym (cond-true (list_all is_decimal (values_in concurrency_word (map item_meant items))) (count_or_zero (last_of (values_in concurrency_word (map item_meant items)))) None (whole ∙ each))

pub ok_same : {E : Type 0} (r : Result ℕ E) (m n : ℕ) → r ≡ Ok m → r ≡ Ok n → m ≡ n
ok_same r m n first second = cc

digits : IsNumeralModel (λ ds. list_all is_ascii_digit ds ≡ true) (digits_value 10)
digits = numerals_by_value (λ ds. list_all is_ascii_digit ds ≡ true) (search rules)

-- what is not read as a number of 32 bits is a greater one
pub too_long : {E : Type 0} (value : List ℕ) (result : Result ℕ E) (fault : E) → is_decimal value ≡ true → ParsesUnsigned 32 10 value result → result ≡ Err fault → 2 ^ 32 ≤ digits_value 10 value
too_long [] result fault decimal parsed failed = cc
too_long (first ∷ rest) result fault decimal parsed failed =
    let all = (and_parts (list_all is_ascii_digit (first ∷ rest)) (not (first == 48) || nat_eq (length rest) 0) decimal).0 in
    elim (cases_lt (digits_value 10 (first ∷ rest)) (2 ^ 32)) [
      | inl less ↦ (
          let given : result ≡ Ok (digits_value 10 (first ∷ rest)) = parse_gives digits 32 (first ∷ rest) result parsed all (omega arith) less in
          cc
          )
      | inr more ↦ more
    ]
