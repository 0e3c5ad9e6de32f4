-- The files of the caches, which stand beside the runs (docs/DISK.md, "Files of a store").
use Rattle.std.specs.Prelude.{◌≡◌, ◌≢◌, ◌↔◌, ◌⊎◌, ⊤, Bool, true, false, Option, Some, List, ℕ, codes, Result, Ok, Err}
use Rattle.edge_io.specs.Disk.{Files, put, Folder, IsImage, at_rest}
use Rattle.edge_io.specs.Moments.{LeavesOnly, Passes}
use Rattle.edge_io.specs.Steps.{Stays}
use Rattle.run_shelf.specs.declared.faults.ShelfCall.{ShelfCall}
use Rattle.run_shelf.specs.declared.faults.ShelfCall.TheVariants.{Length, ReadAt}
use Rattle.run_shelf.specs.declared.faults.StoreFault.{StoreFault}
use Rattle.run_shelf.specs.declared.faults.StoreFault.TheVariants.{Shelf, Closed}
use Rattle.run_shelf.specs.declared.faults.FileFault.{FileFault}
use Rattle.run_shelf.specs.declared.faults.FileFault.TheVariants as file_fault
use Rattle.run_shelf.specs.declared.faults.CacheFileFault.{CacheFileFault}
use Rattle.run_shelf.specs.declared.faults.CacheFileFault.TheVariants.{Store, NoMemory}
use Rattle.run_shelf.specs.declared.cache_file.CacheFile.{CacheFile}
use Rattle.run_shelf.specs.declared.cache_file.CacheFile.TheVariants.{Failing, Times}
use Rattle.run_shelf.specs.Outcomes.{KeepFails}
use Rattle.run_shelf.specs.Repository.{Run, Shows, IsRepository}
use Rattle.run_shelf.specs.Stores.{StoreSeen, Reads}

-- the name of a cache's file
abbrev pub cache_file_name : CacheFile → List ℕ
cache_file_name Failing = codes "failing.set"
cache_file_name Times = codes "times.set"

-- Equal but for the files of the caches. So the runs are the same.
pub record SameButCaches (files image : Files) : Type 0 where
  pub each : (name : List ℕ) → name ≢ cache_file_name Failing → name ≢ cache_file_name Times → image name ≡ files name

-- a stop at each moment leaves what one at the first might have left, or files that differ from those read then in the
-- caches alone
abbrev pub PassesButCaches : Folder → Folder → Type 0
PassesButCaches s t = Passes (λ image. IsImage s.disk image ⊎ SameButCaches s.disk.published image) s t

-- reads give files that differ in the caches alone
abbrev pub KeepsButCaches : Folder → Folder → Type 0
KeepsButCaches s t = SameButCaches s.disk.published t.disk.published

-- what the file holds, and none where it is not there
abbrev pub HoldsCacheFile : CacheFile → Option (List ℕ) → Folder → Type 0
HoldsCacheFile side found s = found ≡ s.disk.published (cache_file_name side)

-- The files and this one beside them, in place of any other of its name. Nothing else differs, so the runs are as they
-- were.
pub record HasCacheFileBeside (files : Files) (side : CacheFile) (bytes : List ℕ) (image : Files) : Type 0 where
  pub is : image ≡ put files (cache_file_name side) bytes
  pub repository : IsRepository files → IsRepository image
  pub shows : (runs : List Run) → Shows files runs → Shows image runs

-- a stop at each moment leaves what one at the first might have left, or the files as read at the first moment with this
-- one beside them
abbrev pub PassesCacheFile : CacheFile → List ℕ → Folder → Folder → Type 0
PassesCacheFile side bytes s t = Passes (λ image. IsImage s.disk image ⊎ HasCacheFileBeside s.disk.published side bytes image) s t

-- the file is on the disk for good, and each later stop leaves it
pub record KeepsCacheFile (side : CacheFile) (bytes : List ℕ) (s t : Folder) : Type 0 where
  pub disk : t.disk ≡ at_rest (put s.disk.published (cache_file_name side) bytes)
  pub lasts : LeavesOnly (HasCacheFileBeside s.disk.published side bytes) t.disk

-- the file was not put: this call failed, or the store was closed and nothing was done
abbrev pub PutFails : CacheFile → List ℕ → StoreFault → Folder → Folder → Type 0
PutFails side bytes (Shelf call) s t = KeepFails (cache_file_name side) bytes call s t
PutFails side bytes (Closed call) s t = Stays s t

-- one of the two calls that read a file
abbrev pub IsReading : ShelfCall → Type 0
IsReading call = (call ≡ Length) ⊎ (call ≡ ReadAt)

-- a call of a folder that is lent failed, or memory was wanting: no store was closed
abbrev pub OfLentFolder : CacheFileFault → Type 0
OfLentFolder (Store (Shelf call)) = ⊤
OfLentFolder (Store (Closed call)) = ⊥
OfLentFolder NoMemory = ⊤

-- why a whole file was not read: one of these calls failed, or memory was wanting
abbrev pub FileFails : FileFault → Type 0
FileFails (file_fault.Shelf call) = IsReading call
FileFails file_fault.NoMemory = ⊤

-- the same of the file of a cache
abbrev pub CacheFileFails : CacheFileFault → Type 0
CacheFileFails (Store (Shelf call)) = IsReading call
CacheFileFails (Store (Closed call)) = ⊥
CacheFileFails NoMemory = ⊤

-- the same of a store, which may have been closed
abbrev pub TellsOfReading : CacheFileFault → Type 0
TellsOfReading (Store (Shelf call)) = IsReading call
TellsOfReading (Store (Closed call)) = ⊤
TellsOfReading NoMemory = ⊤

-- whether a call of the folder failed
abbrev pub cache_file_failed : {T : Type 0} → Result T CacheFileFault → Bool
cache_file_failed (Ok found) = false
cache_file_failed (Err (Store (Shelf call))) = true
cache_file_failed (Err (Store (Closed call))) = false
cache_file_failed (Err NoMemory) = false

-- the call that failed after which the store is closed: this one's, or the one before it
abbrev pub fault_after_cache_file : {T : Type 0} → Option ShelfCall → Result T CacheFileFault → Option ShelfCall
fault_after_cache_file before (Ok found) = before
fault_after_cache_file before (Err (Store (Shelf call))) = Some call
fault_after_cache_file before (Err (Store (Closed call))) = before
fault_after_cache_file before (Err NoMemory) = before

-- `Closed` comes exactly after a fault, with its call, and each fault is kept
pub record CacheFileCloses {T : Type 0} (before after : Option ShelfCall) (result : Result T CacheFileFault) : Type 0 where
  pub closed : (call : ShelfCall) → (result ≡ Err (Store (Closed call))) ↔ (before ≡ Some call)
  pub kept : after ≡ fault_after_cache_file before result

-- the store was only read, or closed by a fault
abbrev pub CacheFileReads : {T : Type 0} → StoreSeen → StoreSeen → Result T CacheFileFault → Type 0
CacheFileReads before after result = Reads before after (λ old new. CacheFileCloses old new result) (cache_file_failed result)
