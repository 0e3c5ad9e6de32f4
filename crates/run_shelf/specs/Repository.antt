-- The runs that the files of a repository show (docs/DISK.md, "Files of a store").
use Rattle.std.specs.Prelude.{◌≡◌, ◌≢◌, ◌⊎◌, ℕ, ◌<◌, ◌≤◌, ltb, Bool, true, false, Option, Some, None, IsSome, IsSomeAnd, List, [], ◌∷◌, ◌++◌, length, codes, slice_get}
use Rattle.std.specs.Option.{option_map}
use Rattle.std.specs.Fmt.{decimal}
use Rattle.std.specs.Str.{bytes_eq}
use Rattle.edge_io.specs.Disk.{Files}
use Rattle.run_shelf.specs.Bases.{Base, no_base, base_name, IsBase, base_in, HoldsBase}

-- ---- the format, and the base that the second format has

-- the name of the file that says how the repository is laid out
abbrev pub format_name : List ℕ
format_name = codes "format"

-- what that file holds in a repository that was made here
abbrev pub format_bytes : List ℕ
format_bytes = codes "subunit-store 1" ++ 10 ∷ []

-- what it holds in one that has a base
abbrev pub based_format_bytes : List ℕ
based_format_bytes = codes "subunit-store 2" ++ 10 ∷ []

-- the file `format` is there with the second format
abbrev pub HasBasedFormat : Files → Type 0
HasBasedFormat files = files format_name ≡ Some based_format_bytes

-- the file `format` is there with one of the two formats
abbrev pub HasFormat : Files → Type 0
HasFormat files = (files format_name ≡ Some format_bytes) ⊎ HasBasedFormat files

-- the file `format` is there with other bytes
abbrev pub HasOtherFormat : Files → Type 0
HasOtherFormat files = (bytes : List ℕ) × (files format_name ≡ Some bytes) × (bytes ≢ format_bytes) × (bytes ≢ based_format_bytes)

-- whether what `format` holds is the second format
abbrev pub is_based : Option (List ℕ) → Bool
is_based None = false
is_based (Some bytes) = bytes_eq bytes based_format_bytes

-- the base that is told by what `base.set` holds, under the second format or not
abbrev pub base_under : Bool → Option (List ℕ) → Base
base_under false file = no_base
base_under true None = no_base
base_under true (Some bytes) = base_in bytes

-- the base of files: none under the first format, whatever `base.set` holds
unfoldable pub base_of : Files → Base
base_of files = base_under (is_based (files format_name)) (files base_name)

-- under the second format the file `base.set` is there and holds a base
abbrev pub HasBaseForm : Files → Type 0
HasBaseForm files = HasBasedFormat files → IsSomeAnd (files base_name) HoldsBase

-- the format is the second one, and the file `base.set` is not there or holds no base
pub record LacksBaseForm (files : Files) : Type 0 where
  pub format : HasBasedFormat files
  pub none : (bytes : List ℕ) (base : Base) → files base_name ≡ Some bytes → IsBase bytes base → ⊥

-- ---- runs

-- a run, which is partial or full, and its bytes
pub record Run : Type 0 where
  pub partial : Bool
  pub bytes : List ℕ

-- the run of this kind with these bytes
abbrev pub run_of : Bool → List ℕ → Run
run_of partial bytes = record { partial = partial; bytes = bytes }

-- how many runs a repository has room for
abbrev pub most_runs : ℕ
most_runs = 1000000

-- the name of a full run: its number
abbrev pub full_name : ℕ → List ℕ
full_name number = decimal number

-- the name of a partial run: its number and `.part`
abbrev pub partial_name : ℕ → List ℕ
partial_name number = decimal number ++ codes ".part"

-- the name of a run of this number and kind
abbrev pub run_name : ℕ → Bool → List ℕ
run_name number true = partial_name number
run_name number false = full_name number

-- the run that the two files of a number make: of an old number the partial one alone, else the full one where it is there
abbrev pub run_of_files : Bool → Option (List ℕ) → Option (List ℕ) → Option Run
run_of_files true full partial = option_map (run_of true) partial
run_of_files false (Some bytes) partial = Some (run_of false bytes)
run_of_files false None partial = option_map (run_of true) partial

-- whether the number is one of those that the base counts
abbrev pub is_old : Files → ℕ → Bool
is_old files number = ltb number (base_of files).count

-- the run of this number, if there is one
abbrev pub run_at : Files → ℕ → Option Run
run_at files number = run_of_files (is_old files number) (files (full_name number)) (files (partial_name number))

-- the files show these runs, and no run behind them
pub record Shows (files : Files) (runs : List Run) : Type 0 where
  pub few : length runs ≤ most_runs
  pub each : (number : ℕ) → number < most_runs → run_at files number ≡ slice_get runs number

-- the same of the kinds alone: whether each run is partial
abbrev pub kind_at : Files → ℕ → Option Bool
kind_at files number = option_map (λ run. run.partial) (run_at files number)

-- of the files themselves; `NamesTellKinds` says it of a list of their names
pub record HasKinds (files : Files) (kinds : List Bool) : Type 0 where
  pub few : length kinds ≤ most_runs
  pub each : (number : ℕ) → number < most_runs → kind_at files number ≡ slice_get kinds number

-- ---- repositories

-- the base has its form, and each run that it counts is there
pub record HasGoodBase (files : Files) : Type 0 where
  pub form : HasBaseForm files
  pub old : (number : ℕ) → number < (base_of files).count → IsSome (files (partial_name number))

-- the base has its form, and this run that it counts is not there
pub record LacksOldRun (files : Files) : Type 0 where
  pub form : HasBaseForm files
  pub number : ℕ
  pub counted : number < (base_of files).count
  pub none : files (partial_name number) ≡ None

-- why the base is not a good one
abbrev pub HasBadBase : Files → Type 0
HasBadBase files = LacksBaseForm files ⊎ LacksOldRun files

-- the least number without a run
pub record IsFirstFree (files : Files) (number : ℕ) : Type 0 where
  pub few : number < most_runs
  pub free : run_at files number ≡ None
  pub before : (other : ℕ) → other < number → IsSome (run_at files other)

-- The least number without a run, and a greater number has one: of the files themselves, which have a good base.
-- `NamesTellGap` says it of a list of their names.
pub record IsGap (files : Files) (number : ℕ) : Type 0 where
  pub base : HasGoodBase files
  pub first : IsFirstFree files number
  pub other : ℕ
  pub behind : number < other
  pub other_few : other < most_runs
  pub other_run : IsSome (run_at files other)

-- the file `format` is a right one, the base is good, and each number before one with a run has a run
pub record IsRepository (files : Files) : Type 0 where
  pub format : HasFormat files
  pub base : HasGoodBase files
  pub no_gap : (number other : ℕ) → number < other → other < most_runs → IsSome (run_at files other) → IsSome (run_at files number)
