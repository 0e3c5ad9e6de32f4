-- The two files of the other folder that are kept in memory, and the look at them.
use Rattle.std.proofs.Common.{◌≡◌, inl, inr, ℕ, ◌+◌, ◌/◌, ◌%◌, ◌^◌, ◌<◌, ◌≤◌, Bool, true, false, Option, Some, None, List, [], ◌∷◌, ◌++◌, length, IfSome, refl, sym, ap, ◌∙◌, subst, arith, get_or}
use Rattle.std.specs.Prelude.{codes}
use Rattle.std.specs.Fmt.{decimal}
use Rattle.std.proofs.lemmas.Fmt.{decimal_by_steps}
use Rattle.edge_io.specs.Disk.{Files, Folder}
use Rattle.edge_io.specs.MemState.{begins_with}
use Rattle.run_shelf.specs.Repository.{run_name, most_runs, format_name, HasFormat}
use Rattle.run_shelf.proofs.NameLemmas.{format_differs}
use Rattle.run_shelf.proofs.RunLemmas.{put_here, put_other, none_is_not_some}
use Rattle.old_folder.specs.Looking.{HasStrangeFormat, OldSurveyFails}
use Rattle.old_folder.specs.Olds.{next_name, next_in, HasOldRun, IsOldWith}
use Rattle.old_folder.specs.declared.faults.OldFault.{OldFault}
use Rattle.old_folder.specs.declared.faults.OldFault.TheVariants.{NoStore, NotOld, UnknownFormat, BadCount, Shelf, NoMemory}
use Rattle.old_copies.specs.Copying.{IsOldFolder, folder_in}
use Rattle.old_copies.specs.Looking.{TakesUp, CopyLookFails, copy_fault}

-- ---- names

first_of_next : get_or next_name 0 0 ≡ 110
first_of_next = refl

first_of_format : get_or format_name 0 0 ≡ 102
first_of_format = refl

pub next_no_format : next_name ≡ format_name → ⊥
next_no_format same = omega (arith, ap (λ (l : List ℕ). get_or l 0 0) same, first_of_next, first_of_format)

-- a number begins with a digit
record BeginsWithDigit (n : ℕ) (ds : List ℕ) : Type 0 where
  some : 0 < length ds
  digit : get_or ds 0 0 ≤ 57

begins_more : (n : ℕ) (ds : List ℕ) (d : ℕ) → BeginsWithDigit (n / 10) ds → BeginsWithDigit n (ds ++ d ∷ [])
begins_more n [] d begins = absurd (omega (arith, begins.some))
begins_more n (x ∷ ds) d begins = record { some = omega arith; digit = begins.digit }

begins_one : (n : ℕ) → n < 10 → BeginsWithDigit n ((48 + n) ∷ [])
begins_one n one = record { some = omega arith; digit = omega arith }

begins : (n : ℕ) → n < 2 ^ 64 → BeginsWithDigit n (decimal n)
begins n fits = decimal_by_steps BeginsWithDigit begins_one (λ m ds more here. begins_more m ds (48 + m % 10) here) n fits

first_of : (ds rest : List ℕ) → 0 < length ds → get_or (ds ++ rest) 0 0 ≡ get_or ds 0 0
first_of [] rest some = absurd (omega arith)
first_of (x ∷ ds) rest some = refl

pub next_differs : (number : ℕ) (partial : Bool) → number < 2 ^ 64 → next_name ≡ run_name number partial → ⊥
next_differs number true fits same =
    let digit = begins number fits in
    omega (arith, digit.digit, sym first_of_next ∙ ap (λ (l : List ℕ). get_or l 0 0) same ∙ first_of (decimal number) (codes ".part") digit.some)
next_differs number false fits same =
    let digit = begins number fits in
    omega (arith, digit.digit, sym first_of_next ∙ ap (λ (l : List ℕ). get_or l 0 0) same)

-- ---- what was taken up

pub takes_here : (name : List ℕ) (file : Option (List ℕ)) (s t : Folder) → s.disk.published name ≡ None → TakesUp name file s t → t.disk.published name ≡ file
takes_here name None s t none takes = ap (λ (f : Folder). f.disk.published name) takes ∙ none
takes_here name (Some bytes) s t none takes = ap (λ (f : Folder). f.disk.published name) takes ∙ put_here s.disk.published name bytes name refl

pub takes_other : (name : List ℕ) (file : Option (List ℕ)) (s t : Folder) (other : List ℕ) → (other ≡ name → ⊥) → TakesUp name file s t → t.disk.published other ≡ s.disk.published other
takes_other name None s t other differs takes = ap (λ (f : Folder). f.disk.published other) takes
takes_other name (Some bytes) s t other differs takes = ap (λ (f : Folder). f.disk.published other) takes ∙ put_other s.disk.published name bytes other differs

pub takes_settled : (name : List ℕ) (file : Option (List ℕ)) (s t : Folder) → s.disk.pending ≡ None → TakesUp name file s t → t.disk.pending ≡ None
takes_settled name None s t none takes = ap (λ (f : Folder). f.disk.pending) takes ∙ none
takes_settled name (Some bytes) s t none takes = ap (λ (f : Folder). f.disk.pending) takes

-- the two files, and no other
module _ (old : Files) (s m t : Folder) (empty : s ≡ begins_with (λ name. None)) (first : TakesUp format_name (old format_name) s m) (second : TakesUp next_name (old next_name) m t) where
  none_first : (name : List ℕ) → s.disk.published name ≡ None
  none_first name = ap (λ (f : Folder). f.disk.published name) empty

  format_is : t.disk.published format_name ≡ old format_name
  format_is = takes_other next_name (old next_name) m t format_name (λ e. next_no_format (sym e)) second ∙ takes_here format_name (old format_name) s m (none_first format_name) first

  next_is : t.disk.published next_name ≡ old next_name
  next_is = takes_here next_name (old next_name) m t (takes_other format_name (old format_name) s m next_name next_no_format first ∙ none_first next_name) second

  none_else : (name : List ℕ) → (name ≡ format_name → ⊥) → (name ≡ next_name → ⊥) → t.disk.published name ≡ None
  none_else name no_format no_next = takes_other next_name (old next_name) m t name no_next second ∙ takes_other format_name (old format_name) s m name no_format first ∙ none_first name

  no_run : (number : ℕ) → number < most_runs → HasOldRun t.disk.published number → ⊥
  no_run number few has =
      none_is_not_some (t.disk.published (run_name number has.0))
      (none_else (run_name number has.0) (λ e. format_differs number has.0 (omega (arith, few)) (sym e)) (λ e. next_differs number has.0 (omega (arith, few)) (sym e)))
      has.1

  pub counts_next : (count : ℕ) → IsOldWith count t.disk.published → IsOldFolder count old
  counts_next count with = record {
    is = sym format_is ∙ with.old;
    next = ap next_in (sym next_is) ∙ with.counted.tells ∙ ap Some (elim with.counted.least [
      | inl same ↦ sym same
      | inr one ↦ absurd (no_run one.0 one.1 one.2)
    ]);
  }

  known_format : HasFormat t.disk.published → HasFormat old
  known_format (inl first) = inl (sym format_is ∙ first)
  known_format (inr based) = inr (sym format_is ∙ based)

  strange_format : HasStrangeFormat t.disk.published → HasStrangeFormat old
  strange_format strange = record {
    other = (strange.other.0, sym format_is ∙ strange.other.1, strange.other.2, strange.other.3);
    not_old = λ is. strange.not_old (format_is ∙ is);
  }

  pub look_fails : (fault : OldFault) (u : Folder) → OldSurveyFails fault t u → CopyLookFails old (copy_fault fault)
  look_fails NoStore u fails = sym format_is ∙ fails.0
  look_fails NotOld u fails = known_format fails.0
  look_fails UnknownFormat u fails = strange_format fails.0
  look_fails BadCount u fails = record { old = sym format_is ∙ fails.0.old; none = ap next_in (sym next_is) ∙ fails.0.none }
  look_fails (Shelf call) u fails = tt
  look_fails NoMemory u fails = tt

-- where the other folder is told or not
module _ (from : List ℕ) (w v : Option Files) (same : v ≡ w) (s m t : Folder) (empty : s ≡ begins_with (λ name. None)) where
  pub looks : IfSome w (λ files. TakesUp format_name (folder_in from files format_name) s m) → IfSome v (λ files. TakesUp next_name (folder_in from files next_name) m t) → (count : ℕ) → IsOldWith count t.disk.published → IfSome w (λ files. IsOldFolder count (folder_in from files))
  looks first second count with = by w first (subst (λ (o : Option Files). IfSome o (λ files. TakesUp next_name (folder_in from files next_name) m t)) same second)
    where
      by : (o : Option Files) → IfSome o (λ files. TakesUp format_name (folder_in from files format_name) s m) → IfSome o (λ files. TakesUp next_name (folder_in from files next_name) m t) → IfSome o (λ files. IsOldFolder count (folder_in from files))
      by None one two = tt
      by (Some files) one two = counts_next (folder_in from files) s m t empty one two count with

  pub looks_fail : IfSome w (λ files. TakesUp format_name (folder_in from files format_name) s m) → IfSome v (λ files. TakesUp next_name (folder_in from files next_name) m t) → (fault : OldFault) (u : Folder) → OldSurveyFails fault t u → IfSome w (λ files. CopyLookFails (folder_in from files) (copy_fault fault))
  looks_fail first second fault u fails = by w first (subst (λ (o : Option Files). IfSome o (λ files. TakesUp next_name (folder_in from files next_name) m t)) same second)
    where
      by : (o : Option Files) → IfSome o (λ files. TakesUp format_name (folder_in from files format_name) s m) → IfSome o (λ files. TakesUp next_name (folder_in from files next_name) m t) → IfSome o (λ files. CopyLookFails (folder_in from files) (copy_fault fault))
      by None one two = tt
      by (Some files) one two = look_fails (folder_in from files) s m t empty one two fault u fails
