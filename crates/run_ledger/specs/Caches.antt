-- The two caches: their files, and what they must hold (docs/FORMATS.md, "Caches").
use Rattle.std.specs.Prelude.{◌≡◌, ℕ, ◌<◌, ◌≤◌, ◌^◌, Some, List, ◌++◌, length, codes, slice_get, All}
use Rattle.std.specs.List.{flat_map}
use Rattle.std.specs.List.Sorted.{IsStrictlySortedBy}
use Rattle.std.specs.Fmt.{decimal}
use Rattle.std.specs.FinMap as fin
use Rattle.std.specs.FinMap.{FinMap}
use Rattle.edge_io.specs.Disk.{Files}
use Rattle.sub_number.specs.Texts.{IsShortText}
use Rattle.outcome_fold.specs.Order.{text_cmp}
use Rattle.run_shelf.specs.Repository.{Run, run_at, most_runs, base_of}
use Rattle.run_shelf.specs.Sides.{cache_file_name}
use Rattle.run_shelf.specs.declared.cache_file.CacheFile.TheVariants.{Failing, Times}
use Rattle.run_shelf.specs.IdFiles.{heading, with_zero}
use Rattle.run_ledger.specs.Ledger.{RunRows, AreRunRows, failing_after, times_after}

-- the first line of the failing set's cache
abbrev pub failing_title : List ℕ
failing_title = codes "subunit-failing 1"

-- the first line of the times' cache
abbrev pub times_title : List ℕ
times_title = codes "subunit-times 1"

-- the cache of a failing set
abbrev pub failing_cache : ℕ → List (List ℕ) → List ℕ
failing_cache covers ids = heading failing_title covers ++ flat_map with_zero ids

-- an id and its time
abbrev pub time_entry : List ℕ × ℕ → List ℕ
time_entry timed = with_zero timed.0 ++ with_zero (decimal timed.1)

-- the cache of times
abbrev pub times_cache : ℕ → FinMap text_cmp ℕ → List ℕ
times_cache covers times = heading times_title covers ++ flat_map time_entry (fin.entries times)

-- The bytes are of the form: a number that is small enough, and texts in the order of their bytes, each once. A number in
-- decimal has no leading zero.
pub record IsFailingCache (bytes : List ℕ) (covers : ℕ) (ids : List (List ℕ)) : Type 0 where
  pub is : bytes ≡ failing_cache covers ids
  pub number : covers < 2 ^ 64
  pub texts : All IsShortText ids
  pub ordered : IsStrictlySortedBy text_cmp ids

-- an id with a time that is small enough
pub record IsTimed (timed : List ℕ × ℕ) : Type 0 where
  pub text : IsShortText timed.0
  pub time : timed.1 < 2 ^ 64

-- The same of times. The ids of a map are in the order of their bytes, each once.
pub record IsTimesCache (bytes : List ℕ) (covers : ℕ) (times : FinMap text_cmp ℕ) : Type 0 where
  pub is : bytes ≡ times_cache covers times
  pub number : covers < 2 ^ 64
  pub each : All IsTimed (fin.entries times)

-- these are the first runs of the files
pub record AreFirstRuns (files : Files) (runs : List Run) : Type 0 where
  pub few : length runs ≤ most_runs
  pub each : (number : ℕ) → number < length runs → run_at files number ≡ slice_get runs number

-- the files have as many runs, from the first on, and this is said of these runs' rows
pub record SaidOfFirst {X : Type 0} (says : List RunRows → X) (files : Files) (covers : ℕ) (x : X) : Type 0 where
  pub runs : List Run
  pub first : AreFirstRuns files runs
  pub count : length runs ≡ covers
  pub entries : List RunRows
  pub rows : AreRunRows runs entries
  pub said : x ≡ says entries

-- The ids are the failing set of as many first runs of the files, among which are all that the base counts.
pub record FailingOfFirst (files : Files) (covers : ℕ) (ids : List (List ℕ)) : Type 0 where
  pub behind : (base_of files).count ≤ covers
  pub said : SaidOfFirst (failing_after (base_of files)) files covers ids

-- The files are sound: each cache of its form covers at most the runs that there are, and holds the fold over that many.
-- That of the failing set covers at least those that the base counts.
pub record IsSound (files : Files) : Type 0 where
  pub failing : (bytes : List ℕ) (covers : ℕ) (ids : List (List ℕ)) → files (cache_file_name Failing) ≡ Some bytes → IsFailingCache bytes covers ids → FailingOfFirst files covers ids
  pub times : (bytes : List ℕ) (covers : ℕ) (times : FinMap text_cmp ℕ) → files (cache_file_name Times) ≡ Some bytes → IsTimesCache bytes covers times → SaidOfFirst times_after files covers times
