-- A folder of the original tool while its runs are converted, and behind that.
use Rattle.std.proofs.Common.{◌≡◌, ◌⊎◌, inl, inr, ℕ, suc, zero, ◌+◌, ◌/◌, ◌%◌, ◌^◌, ◌<◌, ◌≤◌, Bool, true, false, Option, Some, None, IsSome, List, [], ◌∷◌, ◌++◌, length, length-append, map, refl, sym, ap, ◌∙◌, subst, arith, get_or}
use Rattle.std.specs.Prelude.{slice_get, codes}
use Rattle.std.specs.Fmt.{decimal}
use Rattle.std.proofs.lemmas.Fmt.{decimal_by_steps}
use Rattle.std.specs.Option.{option_map}
use Rattle.std.proofs.lemmas.Bool.{cases_eq, cases_lt}
use Rattle.std.proofs.lemmas.List.{length-map}
use Rattle.edge_io.specs.Disk.{Files, put}
use Rattle.run_shelf.specs.Adoption.{IsConverted, IsAdopted, SameButNew}
use Rattle.run_shelf.specs.Bases.{base_name, base_in}
use Rattle.run_shelf.specs.Repository.{run_of, run_name, full_name, partial_name, most_runs, format_name, based_format_bytes, Shows}
use Rattle.run_shelf.proofs.NameLemmas.{base_differs, partial_differs, partial_same}
use Rattle.run_shelf.proofs.OldLemmas.{old_still, new_itself}
use Rattle.run_shelf.proofs.RunLemmas.{put_here, put_other, last_item, other_item, past_items, within_items, none_is_not_some}
use Rattle.old_folder.specs.Converting.{HasConverted, StaysOld, IsUpgraded}
use Rattle.old_folder.specs.Olds.{next_name, failing_name, next_in, next_of, HasOldRun, IsOldCount, IsOldWith}

-- ---- names that no converted run has, nor a base

first_of_next : get_or next_name 0 0 ≡ 110
first_of_next = refl

first_of_failing : get_or failing_name 0 0 ≡ 102
first_of_failing = refl

first_of_base : get_or base_name 0 0 ≡ 98
first_of_base = refl

-- a number begins with a digit
record BeginsWithDigit (n : ℕ) (ds : List ℕ) : Type 0 where
  some : 0 < length ds
  digit : get_or ds 0 0 ≤ 57

begins_more : (n : ℕ) (ds : List ℕ) (d : ℕ) → BeginsWithDigit (n / 10) ds → BeginsWithDigit n (ds ++ d ∷ [])
begins_more n [] d begins = absurd (omega (arith, begins.some))
begins_more n (x ∷ ds) d begins = record { some = omega arith; digit = begins.digit }

begins_one : (n : ℕ) → n < 10 → BeginsWithDigit n ((48 + n) ∷ [])
begins_one n one = record { some = omega arith; digit = omega arith }

begins : (n : ℕ) → n < 2 ^ 64 → BeginsWithDigit n (decimal n)
begins n fits = decimal_by_steps BeginsWithDigit begins_one (λ m ds more here. begins_more m ds (48 + m % 10) here) n fits

first_of : (ds rest : List ℕ) → 0 < length ds → get_or (ds ++ rest) 0 0 ≡ get_or ds 0 0
first_of [] rest some = absurd (omega arith)
first_of (x ∷ ds) rest some = refl

first_of_part : (number : ℕ) → number < 2 ^ 64 → get_or (partial_name number) 0 0 ≤ 57
first_of_part number fits =
    let digit = begins number fits in
    omega (arith, digit.digit, first_of (decimal number) (codes ".part") digit.some)

pub next_still : (count : ℕ) (files image : Files) → count ≤ most_runs → SameButNew count files image → image next_name ≡ files next_name
next_still count files image few same =
    same.each next_name (λ e. omega (arith, ap (λ (l : List ℕ). get_or l 0 0) e, first_of_next, first_of_base))
    (λ number less e. omega (arith, ap (λ (l : List ℕ). get_or l 0 0) e, first_of_next, first_of_part number (omega (arith, less, few))))

pub failing_still : (count : ℕ) (files image : Files) → count ≤ most_runs → SameButNew count files image → image failing_name ≡ files failing_name
failing_still count files image few same =
    same.each failing_name (λ e. omega (arith, ap (λ (l : List ℕ). get_or l 0 0) e, first_of_failing, first_of_base))
    (λ number less e. omega (arith, ap (λ (l : List ℕ). get_or l 0 0) e, first_of_failing, first_of_part number (omega (arith, less, few))))

-- the name of a run behind these is that of no converted one of them
run_behind : (count k number : ℕ) (partial : Bool) → count ≤ k → k < most_runs → number < count → run_name k partial ≡ partial_name number → ⊥
run_behind count k number true behind few less same = omega (arith, partial_same k number (omega (arith, few)) (omega (arith, less, behind, few)) same, less, behind)
run_behind count k number false behind few less same = partial_differs number k (omega (arith, few)) (sym same)

pub behind_still : (count k : ℕ) (partial : Bool) (files image : Files) → SameButNew count files image → count ≤ k → k < most_runs → image (run_name k partial) ≡ files (run_name k partial)
behind_still count k partial files image same behind few =
    same.each (run_name k partial) (λ e. base_differs k partial (omega (arith, few)) (sym e)) (λ number less e. run_behind count k number partial behind few less e)

-- ---- how many runs there are

none_from : (o : Option (List ℕ)) → (IsSome o → ⊥) → o ≡ None
none_from None none = refl
none_from (Some bytes) none = absurd (none refl)

not_none : (o : Option (List ℕ)) → o ≡ None → IsSome o ⊎ (IsSome o → ⊥)
not_none o is = inr (λ some. none_is_not_some o is some)

some_or_not : (o : Option (List ℕ)) → IsSome o ⊎ (IsSome o → ⊥)
some_or_not None = not_none None refl
some_or_not (Some bytes) = inl refl

has_or_not : (files : Files) (number : ℕ) → HasOldRun files number ⊎ (HasOldRun files number → ⊥)
has_or_not files number = elim (some_or_not (files (full_name number))) [
  | inl full ↦ inl (false, full)
  | inr no_full ↦ elim (some_or_not (files (partial_name number))) [
    | inl part ↦ inl (true, part)
    | inr no_part ↦ inr (λ has. neither has.0 has.1 no_full no_part)
  ]
]
  where
    neither : (partial : Bool) → IsSome (files (run_name number partial)) → (IsSome (files (full_name number)) → ⊥) → (IsSome (files (partial_name number)) → ⊥) → ⊥
    neither true some no_full no_part = no_part some
    neither false some no_full no_part = no_full some

before : (n m : ℕ) → n < suc m → (n ≡ m → ⊥) → n < m
before n m within differs = elim (cases_lt n m) [
  | inl less ↦ less
  | inr more ↦ absurd (differs (omega (arith, within, more)))
]

not_last : (n m : ℕ) → n ≤ suc m → (n ≡ suc m → ⊥) → n ≤ m
not_last n m within differs = elim (cases_lt m n) [
  | inl more ↦ absurd (differs (omega (arith, within, more)))
  | inr less ↦ less
]

-- the greatest number that has a file, or the one that comes next
module _ (files : Files) (next : ℕ) (tells : next_of files ≡ Some next) where
  pub greatest : (most : ℕ) → next ≤ most → most ≤ most_runs → ((number : ℕ) → number < most_runs → HasOldRun files number → number < most) → (count : ℕ) × (count ≤ most) × IsOldCount files count
  greatest zero from few within = (zero, omega arith, record { next = next; tells = tells; few = few; most = from; within = within; least = inl (omega (arith, from)) })
  greatest (suc most) from few within = elim (cases_eq next (suc most)) [
    | inl same ↦ (suc most, omega arith, record { next = next; tells = tells; few = few; most = from; within = within; least = inl (sym same) })
    | inr differs ↦ elim (has_or_not files most) [
      | inl has ↦ (suc most, omega arith, record { next = next; tells = tells; few = few; most = from; within = within; least = inr (most, omega (arith, few), has, omega arith) })
      | inr none ↦
          let less : next ≤ most = not_last next most from differs in
          let rest = greatest most less (omega (arith, few)) (λ number small has. below number small has none) in
          (rest.0, omega (arith, rest.1), rest.2)
    ]
  ]
    where
      below : (number : ℕ) → number < most_runs → HasOldRun files number → (HasOldRun files most → ⊥) → number < most
      below number small has none = elim (cases_eq number most) [
        | inl same ↦ absurd (none (subst (HasOldRun files) same has))
        | inr other ↦ before number most (within number small has) other
      ]

-- ---- it stays open

module _ (count : ℕ) (files image : Files) (was : IsOldWith count files) (same : SameButNew count files image) where
  still_within : (number : ℕ) → number < most_runs → HasOldRun image number → number < count
  still_within number few has = elim (cases_lt number count) [
    | inl less ↦ less
    | inr behind ↦ was.counted.within number few (has.0, subst IsSome (behind_still count number has.0 files image same behind few) has.1)
  ]

  still_tells : next_of image ≡ Some was.counted.next
  still_tells = ap next_in (next_still count files image was.counted.few same) ∙ was.counted.tells

  pub stays : StaysOld files image
  stays =
      let left = greatest image was.counted.next still_tells count was.counted.most was.counted.few still_within in
      record {
        count = count;
        was = was;
        left = left.0;
        is = record { old = old_still count files image was.counted.few same was.old; counted = left.2 };
        few = left.1;
        but = same;
      }

-- ---- one run more, and all

pub none_converted : (files : Files) → HasConverted [] files files
none_converted files = record { but = new_itself 0 files; each = λ number less. absurd (omega (arith, less)) }

module _ (runs : List (List ℕ)) (files now : Files) (bytes : List ℕ) (small : length runs < most_runs) (has : HasConverted runs files now) where
  abbrev name : List ℕ
  name = partial_name (length runs)

  longer : length (runs ++ bytes ∷ []) ≡ length runs + 1
  longer = length-append runs (bytes ∷ [])

  each_more : (number : ℕ) → number < length (runs ++ bytes ∷ []) → put now name bytes (partial_name number) ≡ slice_get (runs ++ bytes ∷ []) number
  each_more number less = elim (cases_eq number (length runs)) [
    | inl here ↦ put_here now name bytes (partial_name number) (ap partial_name here) ∙ sym (ap (slice_get (runs ++ bytes ∷ [])) here ∙ last_item runs bytes)
    | inr other ↦
        put_other now name bytes (partial_name number) (λ e. other (partial_same number (length runs) (omega (arith, less, longer, small)) (omega (arith, small)) e))
        ∙ has.each number (before number (length runs) (omega (arith, less, longer)) other)
        ∙ sym (other_item runs bytes number other)
  ]

  pub one_more : HasConverted (runs ++ bytes ∷ []) files (put now name bytes)
  one_more = record {
    but = record {
      each = λ other no_base no_run.
          put_other now name bytes other (no_run (length runs) (omega (arith, longer)))
          ∙ has.but.each other no_base (λ number less. no_run number (omega (arith, less, longer)));
    };
    each = each_more;
  }

module _ (runs : List (List ℕ)) (files now : Files) (was : IsOldWith (length runs) files) (has : HasConverted runs files now) where
  none_behind : (number : ℕ) (partial : Bool) → length runs ≤ number → number < most_runs → now (run_name number partial) ≡ None
  none_behind number partial behind few =
      behind_still (length runs) number partial files now has.but behind few
      ∙ none_from (files (run_name number partial)) (λ some. omega (arith, was.counted.within number few (partial, some), behind))

  pub all_converted : IsConverted (length runs) now
  all_converted = record {
    runs = λ number less. subst IsSome (sym (has.each number less)) (within_items runs number less);
    behind = none_behind;
  }

  module _ (ids : List (List ℕ)) (bytes : List ℕ) (image : Files) (tells : base_in bytes ≡ record { count = length runs; ids = ids }) (adopted : IsAdopted bytes now image) where
    mapped : (rest : List (List ℕ)) (number : ℕ) → slice_get (map (run_of true) rest) number ≡ option_map (run_of true) (slice_get rest number)
    mapped [] number = refl
    mapped (run ∷ rest) zero = refl
    mapped (run ∷ rest) (suc number) = mapped rest number

    run_there : (number : ℕ) → number < most_runs → now (partial_name number) ≡ slice_get runs number
    run_there number few = elim (cases_lt number (length runs)) [
      | inl less ↦ has.each number less
      | inr behind ↦ none_behind number true behind few ∙ sym (past_items runs number behind)
    ]

    shown : Shows image (map (run_of true) runs)
    shown = record {
      few = omega (arith, length-map runs (run_of true), was.counted.few);
      each = λ number few. adopted.runs number few ∙ ap (option_map (run_of true)) (run_there number few) ∙ sym (mapped runs number);
    }

    pub upgraded : IsUpgraded runs ids files image
    upgraded = record {
      was = was;
      format = ap (λ (f : Files). f format_name) adopted.is ∙ put_here (put now base_name bytes) format_name based_format_bytes format_name refl;
      repository = adopted.repository;
      base = adopted.base ∙ tells;
      shown = shown;
      others = λ name no_format no_base no_run.
          ap (λ (f : Files). f name) adopted.is
          ∙ put_other (put now base_name bytes) format_name based_format_bytes name no_format
          ∙ put_other now base_name bytes name no_base
          ∙ has.but.each name no_base no_run;
    }
