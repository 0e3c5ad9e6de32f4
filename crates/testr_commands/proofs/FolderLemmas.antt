-- A folder that takes a run more is none that refuses it.
use Rattle.std.proofs.Common.{◌≡◌, inl, inr, ℕ, zero, suc, ◌<◌, ◌≤◌, Bool, Option, None, Some, IfSome, IsSomeAnd, IsSome, List, [], ◌∷◌, length, refl, sym, ◌∙◌, arith}
use Rattle.std.specs.Prelude.{slice_get}
use Rattle.std.proofs.lemmas.Bool.{cases_lt}
use Rattle.edge_io.specs.Disk.{Files, Folder}
use Rattle.run_shelf.specs.Repository.{IsRepository, most_runs, format_name, format_bytes, based_format_bytes, HasFormat, HasOtherFormat, HasBadBase, IsGap, HasKinds, run_at}
use Rattle.command_steps.specs.Runs.{HasRuns}
use Rattle.run_shelf.proofs.BadBases.{bad_or_good}

past_all : {A : Type 0} (xs : List A) (k : ℕ) → length xs ≤ k → slice_get xs k ≡ None
past_all [] k past = refl
past_all (x ∷ xs) zero past = absurd (omega arith)
past_all (x ∷ xs) (suc k) past = past_all xs k (omega arith)

within_all : {A : Type 0} (xs : List A) (k : ℕ) → slice_get xs k ≡ None → length xs ≤ k
within_all [] k none = omega arith
within_all (x ∷ xs) zero none = cc
within_all (x ∷ xs) (suc k) none = omega (arith, within_all xs k none)

not_fewer : (files : Files) (some others : List Bool) → HasKinds files some → HasKinds files others → length some < length others → ⊥
not_fewer files some others are others_are fewer =
    let small : length some < most_runs = omega (arith, others_are.few) in
    let none : slice_get others (length some) ≡ None = sym (others_are.each (length some) small) ∙ are.each (length some) small ∙ past_all some (length some) (omega arith) in
    omega (arith, within_all others (length some) none)

-- the kinds of the runs are as many as there are runs
one_count : (files : Files) (some others : List Bool) → HasKinds files some → HasKinds files others → length some ≡ length others
one_count files some others are others_are = elim (cases_lt (length some) (length others)) [
  | inl fewer ↦ absurd (not_fewer files some others are others_are fewer)
  | inr rest ↦ elim (cases_lt (length others) (length some)) [
    | inl fewer ↦ absurd (not_fewer files others some others_are are fewer)
    | inr same ↦ omega arith
  ]
]

pub none_or_some : {A : Type 0} (o : Option A) → o ≡ None → IsSome o → ⊥
none_or_some None none some = cc
none_or_some (Some a) none some = cc

format_there : (files : Files) → files format_name ≡ None → HasFormat files → ⊥
format_there files none (inl format) = cc
format_there files none (inr format) = cc

pub other_or_format : (files : Files) → HasOtherFormat files → HasFormat files → ⊥
other_or_format files (bytes, there, first, second) (inl format) =
    let same : Some bytes ≡ Some format_bytes = sym there ∙ format in
    first cc
other_or_format files (bytes, there, first, second) (inr format) =
    let same : Some bytes ≡ Some based_format_bytes = sym there ∙ format in
    second cc

abbrev HasRoomForRun : Folder → Type 0
HasRoomForRun s = (number : ℕ) × (number < most_runs) × HasRuns number s

abbrev HasSomeRun : Folder → Type 0
HasSomeRun s = (number : ℕ) × (0 < number) × HasRuns number s

module _ (s : Folder) (repository : IsRepository s.disk.published) where
  no_store : s.disk.published format_name ≡ None → ⊥
  no_store none = format_there s.disk.published none repository.format

  other_format : HasOtherFormat s.disk.published → ⊥
  other_format other = other_or_format s.disk.published other repository.format

  bad_base : HasFormat s.disk.published × HasBadBase s.disk.published → ⊥
  bad_base (format, bad) = bad_or_good s.disk.published bad repository.base

  gap : (number : ℕ) → HasFormat s.disk.published × IsGap s.disk.published number → ⊥
  gap number (format, is) = none_or_some (run_at s.disk.published number) is.first.free (repository.no_gap number is.other is.behind is.other_few is.other_run)

one_number : (s : Folder) (some others : ℕ) → HasRuns some s → HasRuns others s → some ≡ others
one_number s some others a b = omega (arith, a.count, b.count, one_count s.disk.published a.kinds b.kinds a.kinds_are b.kinds_are)

full : (s : Folder) → HasRoomForRun s → HasRuns most_runs s → ⊥
full s takes runs = omega (arith, takes.1, one_number s takes.0 most_runs takes.2 runs)

no_runs : (s : Folder) → HasSomeRun s → HasRuns 0 s → ⊥
no_runs s some runs = omega (arith, some.1, one_number s some.0 0 some.2 runs)

refutes : (P Why : Folder → Type 0) (folder : Option Folder) → IsSomeAnd folder P → ((s : Folder) → P s → Why s → ⊥) → IfSome folder Why → ⊥
refutes P Why None holds never why = absurd holds
refutes P Why (Some s) holds never why = never s holds why

some_weaker : (P Q : Folder → Type 0) (folder : Option Folder) → ((s : Folder) → P s → Q s) → IsSomeAnd folder P → IsSomeAnd folder Q
some_weaker P Q None weaker holds = absurd holds
some_weaker P Q (Some s) weaker holds = weaker s holds

pub takes_in_repository : (folder : Option Folder) → IsSomeAnd folder HasRoomForRun → IsSomeAnd folder (λ s. IsRepository s.disk.published)
takes_in_repository folder takes = some_weaker HasRoomForRun (λ s. IsRepository s.disk.published) folder (λ s t. t.2.repository) takes

module _ (folder : Option Folder) (repository : IsSomeAnd folder (λ s. IsRepository s.disk.published)) where
  pub not_no_store : IfSome folder (λ s. s.disk.published format_name ≡ None) → ⊥
  not_no_store = refutes (λ s. IsRepository s.disk.published) (λ s. s.disk.published format_name ≡ None) folder repository no_store

  pub not_other_format : IfSome folder (λ s. HasOtherFormat s.disk.published) → ⊥
  not_other_format = refutes (λ s. IsRepository s.disk.published) (λ s. HasOtherFormat s.disk.published) folder repository other_format

  pub not_bad_base : IfSome folder (λ s. HasFormat s.disk.published × HasBadBase s.disk.published) → ⊥
  not_bad_base = refutes (λ s. IsRepository s.disk.published) (λ s. HasFormat s.disk.published × HasBadBase s.disk.published) folder repository bad_base

  pub not_gap : (number : ℕ) → IfSome folder (λ s. HasFormat s.disk.published × IsGap s.disk.published number) → ⊥
  not_gap number = refutes (λ s. IsRepository s.disk.published) (λ s. HasFormat s.disk.published × IsGap s.disk.published number) folder repository (λ s r. gap s r number)

pub not_full : (folder : Option Folder) → IsSomeAnd folder HasRoomForRun → IfSome folder (HasRuns most_runs) → ⊥
not_full folder takes = refutes HasRoomForRun (HasRuns most_runs) folder takes full

pub not_empty : (folder : Option Folder) → IsSomeAnd folder HasSomeRun → IfSome folder (HasRuns 0) → ⊥
not_empty folder some = refutes HasSomeRun (HasRuns 0) folder some no_runs
