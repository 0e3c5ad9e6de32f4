-- Which runs a list of names has (docs/DISK.md, "Files of a store").
use Rattle.std.specs.Prelude.{◌≡◌, ◌⊎◌, ⊤, ℕ, ◌+◌, ◌<◌, ◌≤◌, ltb, Bool, true, false, Option, Some, None, IsSome, List, length, Contains, get_or, slice_get, nat_eq, if◌then◌else◌}
use Rattle.run_shelf.specs.Repository.{full_name, partial_name, most_runs}
use Rattle.run_shelf.specs.declared.faults.OpenFault.{OpenFault}
use Rattle.run_shelf.specs.declared.faults.OpenFault.TheVariants.{NoStore, UnknownFormat, BadBase, Gap, Shelf, NoMemory}

-- The kind of the run of a number with these two names, or that there is none. Of an old number the partial run alone
-- counts, else the full one where it is there.
abbrev pub IsKindOf : List (List ℕ) → Bool → List ℕ → List ℕ → Option Bool → Type 0
IsKindOf names true full partial None = Contains names partial → ⊥
IsKindOf names true full partial (Some false) = ⊥
IsKindOf names true full partial (Some true) = Contains names partial
IsKindOf names false full partial None = (Contains names full → ⊥) × (Contains names partial → ⊥)
IsKindOf names false full partial (Some false) = Contains names full
IsKindOf names false full partial (Some true) = (Contains names full → ⊥) × Contains names partial

-- the same of the run of this number, where so many are old
abbrev pub IsKindIn : List (List ℕ) → ℕ → ℕ → Option Bool → Type 0
IsKindIn names old number kind = IsKindOf names (ltb number old) (full_name number) (partial_name number) kind

-- a run of this number is among the names
abbrev pub HasRunIn : List (List ℕ) → ℕ → ℕ → Type 0
HasRunIn names old number = (kind : Bool) × IsKindIn names old number (Some kind)

-- what a list of names tells of the runs, as `HasKinds` says it of the files: each is of its kind, there is no other, and
-- the old ones are there
pub record NamesTellKinds (names : List (List ℕ)) (old : ℕ) (kinds : List Bool) : Type 0 where
  pub few : length kinds ≤ most_runs
  pub each : (number : ℕ) → number < most_runs → IsKindIn names old number (slice_get kinds number)
  pub enough : old ≤ length kinds

-- what a list of names tells of a gap, as `IsGap` says it of the files: the least number without a run, and a greater
-- number has one; the old ones are there
pub record NamesTellGap (names : List (List ℕ)) (old number : ℕ) : Type 0 where
  pub few : number < most_runs
  pub free : IsKindIn names old number None
  pub before : (other : ℕ) → other < number → HasRunIn names old other
  pub other : ℕ
  pub behind : number < other
  pub other_few : other < most_runs
  pub other_run : HasRunIn names old other
  pub enough : old ≤ number

-- an old run is not there
pub record LacksOldName (names : List (List ℕ)) (old : ℕ) : Type 0 where
  pub number : ℕ
  pub less : number < old
  pub none : Contains names (partial_name number) → ⊥

-- why the names are not those of a repository in which so many runs are old
abbrev pub NamesFail : List (List ℕ) → ℕ → OpenFault → Type 0
NamesFail names old NoStore = ⊥
NamesFail names old UnknownFormat = ⊥
NamesFail names old BadBase = LacksOldName names old
NamesFail names old (Gap number) = NamesTellGap names old number
NamesFail names old (Shelf call) = ⊥
NamesFail names old NoMemory = ⊤

-- this is the least number without a run, and there is a greater one, or an old one
abbrev pub missing_run : ℕ → ℕ → OpenFault
missing_run number old = if ltb number old then BadBase else Gap number

-- what is marked at a number
abbrev pub mark_at : List (Option Bool) → ℕ → Option Bool
mark_at marks number = get_or marks number None

-- each number is marked with the kind of its run, and the last mark is one of a run
pub record AreMarksOf (names : List (List ℕ)) (old : ℕ) (marks : List (Option Bool)) : Type 0 where
  pub few : length marks ≤ most_runs
  pub each : (number : ℕ) → number < most_runs → IsKindIn names old number (mark_at marks number)
  pub last : (number : ℕ) → number + 1 ≡ length marks → IsSome (mark_at marks number)

-- the full run counts
abbrev pub joined_kind : Option Bool → Bool → Bool
joined_kind None partial = partial
joined_kind (Some true) partial = partial
joined_kind (Some false) partial = false

-- one run more was marked
pub record MarksRun (number : ℕ) (partial : Bool) (old new : List (Option Bool)) : Type 0 where
  pub few : length old ≤ most_runs → length new ≤ most_runs
  pub each : (other : ℕ) → mark_at new other ≡ (if nat_eq other number then Some (joined_kind (mark_at old number) partial) else mark_at old other)
  pub last : (other : ℕ) → other + 1 ≡ length new → (other ≡ number) ⊎ (other + 1 ≡ length old)
