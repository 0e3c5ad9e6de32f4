-- What is told with the help of a cache.
use Rattle.std.specs.Prelude.{◌≡◌, ℕ, ◌<◌, ◌≤◌, Bool, false, Some, List, slice_get}
use Rattle.std.specs.FinMap.{FinMap}
use Rattle.edge_io.specs.Disk.{Folder}
use Rattle.outcome_fold.specs.Order.{text_cmp}
use Rattle.run_shelf.specs.declared.faults.CacheFileFault.{CacheFileFault}
use Rattle.run_shelf.specs.declared.faults.CacheFileFault.TheVariants as side_fault
use Rattle.run_shelf.specs.declared.cache_file.CacheFile.TheVariants.{Failing, Times}
use Rattle.run_shelf.specs.Sides.{cache_file_name}
use Rattle.run_ledger.specs.declared.fault.LedgerFault.{LedgerFault}
use Rattle.run_ledger.specs.declared.fault.LedgerFault.TheVariants.{Store, NoMemory}
use Rattle.run_ledger.specs.Caches.{IsFailingCache, IsTimesCache, SaidOfFirst, FailingOfFirst, IsSound}
use Rattle.run_ledger.specs.Ledger.{times_after}

-- the fault of a cache as a fault of the ledger
abbrev pub ledger_fault : CacheFileFault → LedgerFault
ledger_fault (side_fault.Store fault) = Store fault
ledger_fault side_fault.NoMemory = NoMemory

-- the files, as they are read now, are sound
abbrev pub ReadsSound : Folder → Type 0
ReadsSound s = IsSound s.disk.published

-- the file of the cache holds this one
pub record HoldsFailing (covers : ℕ) (ids : List (List ℕ)) (s : Folder) : Type 0 where
  pub bytes : List ℕ
  pub file : s.disk.published (cache_file_name Failing) ≡ Some bytes
  pub form : IsFailingCache bytes covers ids

-- Where the file of the cache holds one that covers no more than the first `number` runs, these say what it holds. Of one that
-- covers more nothing is said, since it is not used.
abbrev pub SaysItsFailing : (number : ℕ) → Folder → Type 0
SaysItsFailing number s = (covers : ℕ) (ids : List (List ℕ)) → HoldsFailing covers ids s → covers ≤ number → FailingOfFirst s.disk.published covers ids

-- the file of the cache holds none, or is not there
abbrev pub HoldsNoFailing : Folder → Type 0
HoldsNoFailing s = (covers : ℕ) (ids : List (List ℕ)) → HoldsFailing covers ids s → ⊥

-- A cache of so many runs covers no more than the first `number` ones, and among them the one from which on they are read
-- without it, or no run is full.
pub record Spares (kinds : List Bool) (number covers : ℕ) : Type 0 where
  pub few : covers ≤ number
  pub behind : (full : ℕ) → slice_get kinds full ≡ Some false → full < covers

-- the file of the cache holds these times
pub record HoldsTimes (covers : ℕ) (times : FinMap text_cmp ℕ) (s : Folder) : Type 0 where
  pub bytes : List ℕ
  pub file : s.disk.published (cache_file_name Times) ≡ Some bytes
  pub form : IsTimesCache bytes covers times

-- the same of the cache of the times
abbrev pub SaysItsTimes : (number : ℕ) → Folder → Type 0
SaysItsTimes number s = (covers : ℕ) (times : FinMap text_cmp ℕ) → HoldsTimes covers times s → covers ≤ number → SaidOfFirst times_after s.disk.published covers times

-- the file of the cache holds none, or is not there
abbrev pub HoldsNoTimes : Folder → Type 0
HoldsNoTimes s = (covers : ℕ) (times : FinMap text_cmp ℕ) → HoldsTimes covers times s → ⊥
