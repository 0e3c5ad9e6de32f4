-- How many calls of the folder were made, by what was answered: so its clock tells which of them failed.
use Rattle.std.specs.Prelude.{◌≡◌, ◌⊎◌, ℕ, zero, suc, Option, List, Result, Ok, Err}
use Rattle.edge_io.specs.Causes.{one_more}
use Rattle.edge_io.specs.Disk.{Folder}
use Rattle.edge_io.specs.Steps.{Goes, Stays}
use Rattle.run_shelf.specs.declared.faults.ShelfCall.{ShelfCall}
use Rattle.run_shelf.specs.declared.faults.ShelfCall.TheVariants.{Names, Length, ReadAt, StartDraft, Append, SyncDraft, Publish, SyncFolder}
use Rattle.run_shelf.specs.declared.faults.InitFault.{InitFault}
use Rattle.run_shelf.specs.declared.faults.InitFault.TheVariants as init_fault
use Rattle.run_shelf.specs.declared.faults.StoreFault.{StoreFault}
use Rattle.run_shelf.specs.declared.faults.StoreFault.TheVariants as store_fault
use Rattle.run_shelf.specs.Bases.{base_name}
use Rattle.run_shelf.specs.Images.{KeepsFile}
use Rattle.run_shelf.specs.Outcomes.{KeepFails, ReadsFormat}
use Rattle.run_shelf.specs.Repository.{format_name, based_format_bytes}

-- what a clock shows so many calls later; it stands still at its last value
abbrev pub calls_later : ℕ → ℕ → ℕ
calls_later zero before = before
calls_later (suc calls) before = calls_later calls (one_more before)

-- so many calls were made
abbrev pub TicksBy : ℕ → ℕ → ℕ → Type 0
TicksBy calls before now = now ≡ calls_later calls before

-- of the two calls that write a draft this one failed, and none was made behind it
abbrev pub TicksToWrite : ShelfCall → ℕ → ℕ → Type 0
TicksToWrite StartDraft before now = TicksBy 1 before now
TicksToWrite Append before now = TicksBy 2 before now
TicksToWrite SyncDraft before now = ⊥
TicksToWrite Publish before now = ⊥
TicksToWrite SyncFolder before now = ⊥
TicksToWrite Names before now = ⊥
TicksToWrite Length before now = ⊥
TicksToWrite ReadAt before now = ⊥

-- of the three calls that place a draft this one failed, and none was made behind it
abbrev pub TicksToPlace : ShelfCall → ℕ → ℕ → Type 0
TicksToPlace SyncDraft before now = TicksBy 1 before now
TicksToPlace Publish before now = TicksBy 2 before now
TicksToPlace SyncFolder before now = TicksBy 3 before now
TicksToPlace StartDraft before now = ⊥
TicksToPlace Append before now = ⊥
TicksToPlace Names before now = ⊥
TicksToPlace Length before now = ⊥
TicksToPlace ReadAt before now = ⊥

-- of the five calls that keep a file this one failed, and none was made behind it
abbrev pub TicksToKeep : ShelfCall → ℕ → ℕ → Type 0
TicksToKeep StartDraft before now = TicksBy 1 before now
TicksToKeep Append before now = TicksBy 2 before now
TicksToKeep SyncDraft before now = TicksBy 3 before now
TicksToKeep Publish before now = TicksBy 4 before now
TicksToKeep SyncFolder before now = TicksBy 5 before now
TicksToKeep Names before now = ⊥
TicksToKeep Length before now = ⊥
TicksToKeep ReadAt before now = ⊥

-- both calls that write a draft were made, or those up to the one that failed
abbrev pub TicksAsWritten : {T : Type 0} → Result T ShelfCall → ℕ → ℕ → Type 0
TicksAsWritten (Ok done) before now = TicksBy 2 before now
TicksAsWritten (Err call) before now = TicksToWrite call before now

-- all three calls that place a draft were made, or those up to the one that failed
abbrev pub TicksAsPlaced : {T : Type 0} → Result T ShelfCall → ℕ → ℕ → Type 0
TicksAsPlaced (Ok done) before now = TicksBy 3 before now
TicksAsPlaced (Err call) before now = TicksToPlace call before now

-- the same of a recorder, which calls nothing where it was closed before
abbrev pub TicksAsCommitted : {T : Type 0} → Result T StoreFault → ℕ → ℕ → Type 0
TicksAsCommitted (Ok done) before now = TicksBy 3 before now
TicksAsCommitted (Err (store_fault.Shelf call)) before now = TicksToPlace call before now
TicksAsCommitted (Err (store_fault.Closed call)) before now = now ≡ before

-- all five calls that keep a file were made, or those up to the one that failed
abbrev pub TicksAsKept : {T : Type 0} → Result T ShelfCall → ℕ → ℕ → Type 0
TicksAsKept (Ok done) before now = TicksBy 5 before now
TicksAsKept (Err call) before now = TicksToKeep call before now

-- the same of a store, which calls nothing where it was closed before
abbrev pub TicksAsPut : {T : Type 0} → Result T StoreFault → ℕ → ℕ → Type 0
TicksAsPut (Ok done) before now = TicksBy 5 before now
TicksAsPut (Err (store_fault.Shelf call)) before now = TicksToKeep call before now
TicksAsPut (Err (store_fault.Closed call)) before now = now ≡ before

-- the base was kept for good, and this call failed as the format was to be kept behind it
pub record FailsBehindBase (bytes : List ℕ) (call : ShelfCall) (s t : Folder) : Type 0 where
  pub between : Folder
  pub base : KeepsFile base_name bytes s between
  pub format : KeepFails format_name based_format_bytes call between t

-- Of the ten calls that take a folder over this one failed, and none was made behind it: one of the five that keep the base,
-- or one of the five that keep the format after them.
abbrev pub TicksToAdopt : List ℕ → ShelfCall → Option Folder → Option Folder → ℕ → ℕ → Type 0
TicksToAdopt bytes call s t before now =
    (TicksToKeep call before now × Goes s t (KeepFails base_name bytes call))
    ⊎ (TicksToKeep call (calls_later 5 before) now × Goes s t (FailsBehindBase bytes call))

-- all ten calls that take a folder over were made, or those up to the one that failed
abbrev pub TicksAsAdopted : {T : Type 0} → List ℕ → Result T ShelfCall → Option Folder → Option Folder → ℕ → ℕ → Type 0
TicksAsAdopted bytes (Ok done) s t before now = TicksBy 10 before now
TicksAsAdopted bytes (Err call) s t before now = TicksToAdopt bytes call s t before now

-- Of the seven calls that make a repository this one failed, and none was made behind it: the first barrier, the look, or one
-- of the five that keep `format`. Where the first barrier failed nothing has changed, and where the last did reads give
-- `format`.
abbrev pub TicksToMake : ShelfCall → Option Folder → Option Folder → ℕ → ℕ → Type 0
TicksToMake SyncFolder s t before now = (TicksBy 1 before now × Goes s t Stays) ⊎ (TicksBy 7 before now × Goes s t ReadsFormat)
TicksToMake Length s t before now = TicksBy 2 before now
TicksToMake StartDraft s t before now = TicksBy 3 before now
TicksToMake Append s t before now = TicksBy 4 before now
TicksToMake SyncDraft s t before now = TicksBy 5 before now
TicksToMake Publish s t before now = TicksBy 6 before now
TicksToMake Names s t before now = ⊥
TicksToMake ReadAt s t before now = ⊥

-- all seven calls that make a repository were made, the first two where there is one, or those up to the one that failed
abbrev pub TicksAsMade : {T : Type 0} → Result T InitFault → Option Folder → Option Folder → ℕ → ℕ → Type 0
TicksAsMade (Ok done) s t before now = TicksBy 7 before now
TicksAsMade (Err init_fault.Exists) s t before now = TicksBy 2 before now
TicksAsMade (Err (init_fault.Shelf call)) s t before now = TicksToMake call s t before now
