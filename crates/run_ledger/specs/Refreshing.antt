-- What a refresh of the caches leaves (docs/FORMATS.md, "Caches").
use Rattle.std.specs.Prelude.{◌≡◌, ℕ, List, length}
use Rattle.std.specs.FinMap.{FinMap}
use Rattle.edge_io.specs.Disk.{put, Folder, at_rest}
use Rattle.edge_io.specs.Moments.{LeavesOnly, Passes}
use Rattle.outcome_fold.specs.Order.{text_cmp}
use Rattle.run_shelf.specs.Repository.{Run, Shows}
use Rattle.run_shelf.specs.Sides.{cache_file_name}
use Rattle.run_shelf.specs.declared.cache_file.CacheFile.TheVariants.{Failing, Times}
use Rattle.run_ledger.specs.Cached.{HoldsFailing, HoldsTimes}
use Rattle.run_ledger.specs.Caches.{IsFailingCache, IsTimesCache, IsSound}
use Rattle.run_ledger.specs.Ledger.{IsFailingSet, AreTimes}

-- where each stop at the first moment leaves sound files, so does a stop at each later one
abbrev pub KeepsSound : Folder → Folder → Type 0
KeepsSound s t = LeavesOnly IsSound s.disk → Passes IsSound s t

-- Both caches stand beside the files as they were, for good. They are of their forms, cover all runs that were shown, and
-- hold what these say together.
pub record PutsCaches (s t : Folder) : Type 0 where
  pub runs : List Run
  pub shown : Shows s.disk.published runs
  pub ids : List (List ℕ)
  pub are_ids : IsFailingSet ids s
  pub times : FinMap text_cmp ℕ
  pub are_times : AreTimes times s
  pub failing_bytes : List ℕ
  pub failing : IsFailingCache failing_bytes (length runs) ids
  pub times_bytes : List ℕ
  pub timed : IsTimesCache times_bytes (length runs) times
  pub disk : t.disk ≡ at_rest (put (put s.disk.published (cache_file_name Failing) failing_bytes) (cache_file_name Times) times_bytes)

-- both files hold a cache that covers so many runs
pub record HoldBoth (covers : ℕ) (s : Folder) : Type 0 where
  pub ids : List (List ℕ)
  pub failing : HoldsFailing covers ids s
  pub times : FinMap text_cmp ℕ
  pub timed : HoldsTimes covers times s

-- the failing set and the times of the runs that the folder shows
pub record AreFolds (ids : List (List ℕ)) (times : FinMap text_cmp ℕ) (s : Folder) : Type 0 where
  pub are_ids : IsFailingSet ids s
  pub are_times : AreTimes times s
