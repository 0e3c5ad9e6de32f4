-- The names of runs differ from one another, and from `format`.
use Rattle.std.proofs.Common.{◌≡◌, Result, Ok, ◌-◌, take, drop, inl, inr, ℕ, ◌+◌, ◌/◌, ◌%◌, ◌<◌, ◌≤◌, ◌^◌, List, [], ◌∷◌, ◌++◌, length, Bool, true, false, true≢false, refl, sym, ap, ◌∙◌, append_assoc, arith, get_or}
use Rattle.std.specs.Prelude.{codes}
use Rattle.std.specs.Fmt.{decimal}
use Rattle.std.specs.Str.{bytes_eq}
use Rattle.std.proofs.lemmas.Slice.Eq.{bytes_eq-Decides}
use Rattle.run_shelf.specs.Names.{SpellsRun, SpellsNoRun, SpellsRunNumber, SpellsNoRunNumber, CountsNoRun}
use Rattle.std.proofs.lemmas.Bool.{cases_lt}
use Rattle.std.proofs.lemmas.List.{append_cancel_right, take-append-drop}
use Rattle.std.proofs.lemmas.Fmt.{decimal_injective, decimal_digit, decimal_step, decimal_by_steps}
use Rattle.run_shelf.specs.Repository.{full_name, partial_name, run_name, format_name}
use Rattle.run_shelf.specs.Bases.{base_name}
use Rattle.run_shelf.specs.Sides.{cache_file_name}
use Rattle.run_shelf.specs.declared.cache_file.CacheFile.{CacheFile}
use Rattle.run_shelf.specs.declared.cache_file.CacheFile.TheVariants.{Failing, Times}

last : List ℕ → ℕ
last [] = 0
last (x ∷ []) = x
last (x ∷ y ∷ xs) = last (y ∷ xs)

last-append : (xs : List ℕ) (a : ℕ) → last (xs ++ a ∷ []) ≡ a
unfolding last
last-append [] a = refl
last-append (x ∷ []) a = refl
last-append (x ∷ y ∷ xs) a = last-append (y ∷ xs) a

-- a number ends with a digit
last_digit : (n : ℕ) → n < 2 ^ 64 → last (decimal n) ≡ 48 + n % 10
last_digit n fits = elim (cases_lt n 10) [
  | inl one ↦
      let small : n % 10 ≡ n = omega arith in
      ap last (decimal_digit n one) ∙ last-append [] (48 + n) ∙ ap (λ k. 48 + k) (sym small)
  | inr more ↦ ap last (decimal_step n more fits) ∙ last-append (decimal (n / 10)) (48 + n % 10)
]

-- so no partial run has the name of a full one
part_differs : (digits : List ℕ) (number : ℕ) → number < 2 ^ 64 → digits ++ codes ".part" ≡ full_name number → ⊥
part_differs digits number fits same =
    let ends : last (digits ++ codes ".part") ≡ 116 = ap last (sym (append_assoc digits (codes ".par") (116 ∷ []))) ∙ last-append (digits ++ codes ".par") 116 in
    omega (arith, sym ends ∙ ap last same ∙ last_digit number fits)

pub partial_differs : (k number : ℕ) → number < 2 ^ 64 → partial_name k ≡ full_name number → ⊥
partial_differs k number fits same = part_differs (decimal k) number fits same

-- a number begins with a digit
record BeginsWithDigit (n : ℕ) (ds : List ℕ) : Type 0 where
  some : 0 < length ds
  digit : get_or ds 0 0 ≤ 57

begins_more : (n : ℕ) (ds : List ℕ) (d : ℕ) → BeginsWithDigit (n / 10) ds → BeginsWithDigit n (ds ++ d ∷ [])
begins_more n [] d begins = absurd (omega (arith, begins.some))
begins_more n (x ∷ ds) d begins = record { some = omega arith; digit = begins.digit }

begins_one : (n : ℕ) → n < 10 → BeginsWithDigit n ((48 + n) ∷ [])
begins_one n one = record { some = omega arith; digit = omega arith }

begins : (n : ℕ) → n < 2 ^ 64 → BeginsWithDigit n (decimal n)
begins n fits = decimal_by_steps BeginsWithDigit begins_one (λ m ds more here. begins_more m ds (48 + m % 10) here) n fits

first_of : (ds rest : List ℕ) → 0 < length ds → get_or (ds ++ rest) 0 0 ≡ get_or ds 0 0
first_of [] rest some = absurd (omega arith)
first_of (x ∷ ds) rest some = refl

first_of_format : get_or format_name 0 0 ≡ 102
first_of_format = refl

pub format_differs : (number : ℕ) (partial : Bool) → number < 2 ^ 64 → format_name ≡ run_name number partial → ⊥
format_differs number true fits same =
    let digit = begins number fits in
    omega (arith, digit.digit, sym first_of_format ∙ ap (λ (l : List ℕ). get_or l 0 0) same ∙ first_of (decimal number) (codes ".part") digit.some)
format_differs number false fits same =
    let digit = begins number fits in
    omega (arith, digit.digit, sym first_of_format ∙ ap (λ (l : List ℕ). get_or l 0 0) same)

-- nor does a file of a cache have the name of a run
first_of_side : (side : CacheFile) → 57 < get_or (cache_file_name side) 0 0
first_of_side Failing = omega arith
first_of_side Times = omega arith

first_of_run : (number : ℕ) (partial : Bool) → number < 2 ^ 64 → get_or (run_name number partial) 0 0 ≤ 57
first_of_run number true fits =
    let digit = begins number fits in
    omega (arith, digit.digit, first_of (decimal number) (codes ".part") digit.some)
first_of_run number false fits = (begins number fits).digit

pub side_differs : (side : CacheFile) (number : ℕ) (partial : Bool) → number < 2 ^ 64 → run_name number partial ≡ cache_file_name side → ⊥
side_differs side number partial fits same =
    omega (arith, first_of_run number partial fits, first_of_side side, ap (λ (l : List ℕ). get_or l 0 0) same)

-- nor has the file of the base
pub base_differs : (number : ℕ) (partial : Bool) → number < 2 ^ 64 → base_name ≡ run_name number partial → ⊥
base_differs number partial fits same = omega (arith, first_of_run number partial fits, ap (λ (l : List ℕ). get_or l 0 0) same, first_of_base)
  where
    first_of_base : get_or base_name 0 0 ≡ 98
    first_of_base = refl

-- and it is not that of a cache
pub base_no_side : (side : CacheFile) → base_name ≡ cache_file_name side → ⊥
base_no_side side same = omega (arith, ap (λ (l : List ℕ). get_or l 0 0) same, first_of_base, first_is side)
  where
    first_of_base : get_or base_name 0 0 ≡ 98
    first_of_base = refl

    first_is : (side : CacheFile) → 98 < get_or (cache_file_name side) 0 0
    first_is Failing = omega arith
    first_is Times = omega arith

second_of_format : get_or format_name 1 0 ≡ 111
second_of_format = refl

second_of_side : (side : CacheFile) → get_or (cache_file_name side) 1 0 ≤ 105
second_of_side Failing = omega arith
second_of_side Times = omega arith

pub side_no_format : (side : CacheFile) → format_name ≡ cache_file_name side → ⊥
side_no_format side same = omega (arith, second_of_format, second_of_side side, ap (λ (l : List ℕ). get_or l 1 0) same)

-- so a name tells number and kind
pub full_same : (m n : ℕ) → m < 2 ^ 64 → n < 2 ^ 64 → full_name m ≡ full_name n → m ≡ n
full_same m n p q same = decimal_injective m n p q same

pub partial_same : (m n : ℕ) → m < 2 ^ 64 → n < 2 ^ 64 → partial_name m ≡ partial_name n → m ≡ n
partial_same m n p q same = decimal_injective m n p q (append_cancel_right (decimal m) (decimal n) (codes ".part") same)

pub ok_same : {E : Type 0} (r : Result ℕ E) (a b : ℕ) → r ≡ Ok a → r ≡ Ok b → a ≡ b
ok_same r a b p q = cc

-- a name that ends with ".part"
module _ (name digits : List ℕ) (ends : bytes_eq (drop (length name - length (codes ".part")) name) (codes ".part") ≡ true) (front : digits ≡ take (length name - length (codes ".part")) name) where
  joined : name ≡ digits ++ codes ".part"
  joined =
      sym (take-append-drop (length name - length (codes ".part")) name)
      ∙ (λ i. sym front i ++ (bytes_eq-Decides (drop (length name - length (codes ".part")) name) (codes ".part")).0 ends i)

  pub spells_partial : (number : ℕ) → SpellsRunNumber digits number → SpellsRun name number true
  spells_partial number spells = record { few = spells.few; is = joined ∙ ap (λ (l : List ℕ). l ++ codes ".part") spells.is }

  pub spells_none : SpellsNoRunNumber digits → SpellsNoRun name
  spells_none none number true spells = none number (record { few = spells.few; is = append_cancel_right digits (decimal number) (codes ".part") (sym joined ∙ spells.is) })
  spells_none none number false spells = part_differs digits number (omega (arith, spells.few)) (sym joined ∙ spells.is)

-- the name of a full run, of which the partial one alone counts
pub only_partial : (name : List ℕ) (old number : ℕ) (partial : Bool) → SpellsRun name number partial → partial ≡ false → number < old → CountsNoRun old name
only_partial name old number true spells full less = absurd (true≢false full)
only_partial name old number false spells full less = none
  where
    none : CountsNoRun old name
    none other true counts = partial_differs other number (omega (arith, spells.few)) (sym counts.spells.is ∙ spells.is)
    none other false counts =
        let same : other ≡ number = full_same other number (omega (arith, counts.spells.few)) (omega (arith, spells.few)) (sym counts.spells.is ∙ spells.is) in
        true≢false (sym (counts.counts (omega (arith, same, less))))
