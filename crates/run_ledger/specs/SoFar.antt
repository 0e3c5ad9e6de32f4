-- What the first runs of a folder say.
use Rattle.std.specs.Prelude.{◌≡◌, ◌⊎◌, ℕ, ◌≤◌, Bool, false, Some, List, take, slice_get}
use Rattle.edge_io.specs.Disk.{Files, Folder}
use Rattle.run_shelf.specs.Repository.{Run, Shows, base_of}
use Rattle.run_ledger.specs.Ledger.{RunRows, AreRunRows, failing_after}

-- the rows of as many runs of the files, from the first on
pub record ShowRowsTo (files : Files) (count : ℕ) (entries : List RunRows) : Type 0 where
  pub runs : List Run
  pub shown : Shows files runs
  pub are : AreRunRows (take count runs) entries

-- what is said of all lists of rows, of the first runs of the folder
abbrev pub SaysTo : {X : Type 0} → (List RunRows → X) → ℕ → X → Folder → Type 0
SaysTo says count x s = (entries : List RunRows) × ShowRowsTo s.disk.published count entries × (x ≡ says entries)

-- the base counts at most so many runs
abbrev pub CountsUpTo : ℕ → Folder → Type 0
CountsUpTo count s = (base_of s.disk.published).count ≤ count

-- the ids are the failing set of the first runs, among which are all that the base counts
pub record FailsBehind (count : ℕ) (ids : List (List ℕ)) (entries : List RunRows) (files : Files) : Type 0 where
  pub behind : (base_of files).count ≤ count
  pub are : ids ≡ failing_after (base_of files) entries

-- The ids are the failing set of the first runs, or the next run is full: then what is said of those before it does not
-- count.
abbrev pub FailsTo : List Bool → ℕ → List (List ℕ) → Folder → Type 0
FailsTo kinds count ids s = (entries : List RunRows) × ShowRowsTo s.disk.published count entries × (FailsBehind count ids entries s.disk.published ⊎ (slice_get kinds count ≡ Some false))
