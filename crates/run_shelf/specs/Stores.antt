-- What is seen of a store and of its recorder.
use Rattle.std.specs.Prelude.{◌≡◌, ◌⊎◌, ◌↔◌, ⊤, ℕ, ◌<◌, Bool, true, false, Option, Some, None, IfSome, IsSome, List, length, Result, Ok, Err}
use Rattle.edge_io.specs.Causes.{RisesExactlyIf}
use Rattle.edge_io.specs.Disk.{Folder}
use Rattle.edge_io.specs.Steps.{Goes, Stays, Dropped, GrownInPart}
use Rattle.edge_io.specs.Seen.{Seen}
use Rattle.run_shelf.specs.declared.faults.ShelfCall.{ShelfCall}
use Rattle.run_shelf.specs.declared.faults.ShelfCall.TheVariants.{StartDraft, Append}
use Rattle.run_shelf.specs.declared.faults.StoreFault.{StoreFault}
use Rattle.run_shelf.specs.declared.faults.StoreFault.TheVariants.{Shelf, Closed}
use Rattle.run_shelf.specs.declared.faults.OpenFault.{OpenFault}
use Rattle.run_shelf.specs.declared.faults.OpenFault.TheVariants as open_fault
use Rattle.run_shelf.specs.declared.faults.StartFault.{StartFault}
use Rattle.run_shelf.specs.declared.faults.StartFault.TheVariants as start_fault
use Rattle.run_shelf.specs.declared.store.Store.{Store}
use Rattle.run_shelf.specs.declared.run.Recorder.{Recorder}
use Rattle.run_shelf.specs.Drafts.{OfDraft, PlaceFails}
use Rattle.run_shelf.specs.Holds.{FitsFolder, kinds_of}
use Rattle.run_shelf.specs.Images.{PassesOld, PassesRun}
use Rattle.run_shelf.specs.Repository.{run_of, HasFormat, HasOtherFormat, HasBadBase, IsGap, format_name, most_runs}

-- whether each run is partial, in the order of their numbers
abbrev pub store_kinds : {H : Type 0} → Store H → List Bool
store_kinds store = kinds_of store.found

-- the call that failed, after which the store is closed
abbrev pub store_fault : {H : Type 0} → Store H → Option ShelfCall
store_fault store = store.fault

-- the kinds of the runs that the recorder's repository had
abbrev pub recorder_kinds : {H : Type 0} → Recorder H → List Bool
recorder_kinds recorder = kinds_of recorder.recording.found

-- whether the run that is recorded is partial
abbrev pub recorder_partial : {H : Type 0} → Recorder H → Bool
recorder_partial recorder = recorder.recording.partial

-- the call that failed, after which the recorder is closed
abbrev pub recorder_fault : {H : Type 0} → Recorder H → Option ShelfCall
recorder_fault recorder = recorder.recording.fault

-- until a call of the folder has failed, what the store knows fits the folder
abbrev pub FitsUnlessBroken : List Bool → Option ShelfCall → Option Folder → Type 0
FitsUnlessBroken kinds fault state = fault ≡ None → IfSome state (FitsFolder kinds)

-- a repository of runs of these kinds, at rest, and a run that was begun
pub record IsRecording (kinds : List Bool) (s : Folder) : Type 0 where
  pub fits : FitsFolder kinds s
  pub draft : IsSome s.draft

-- where no call failed and the folder is told, it has these runs and the draft of another
abbrev pub RecordsUnlessBroken : List Bool → Option ShelfCall → Option Folder → Type 0
RecordsUnlessBroken kinds fault state = fault ≡ None → IfSome state (IsRecording kinds)

-- the call failed that is kept, or the one before it
abbrev pub fault_after : {T : Type 0} → Option ShelfCall → Result T StoreFault → Option ShelfCall
fault_after before (Ok done) = before
fault_after before (Err (Shelf call)) = Some call
fault_after before (Err (Closed call)) = before

-- a call of the folder failed in this call, and not before it
abbrev pub store_failed : {T : Type 0} → Result T StoreFault → Bool
store_failed (Ok done) = false
store_failed (Err (Shelf call)) = true
store_failed (Err (Closed call)) = false

-- `Closed` comes exactly after a fault, with its call, and each fault is kept
pub record Closes {T : Type 0} (before after : Option ShelfCall) (result : Result T StoreFault) : Type 0 where
  pub closed : (call : ShelfCall) → (result ≡ Err (Closed call)) ↔ (before ≡ Some call)
  pub kept : after ≡ fault_after before result

-- what is seen of a store at one moment
pub record StoreSeen : Type 0 where
  pub kinds : List Bool
  pub fault : Option ShelfCall
  pub folder : Seen Folder

-- what is seen of a store that holds a folder of which this is seen
abbrev pub seen_store : {H : Type 0} → Store H → Seen Folder → StoreSeen
seen_store store folder = record { kinds = store_kinds store; fault = store_fault store; folder = folder }

-- The store was only read, or closed by a fault: `Closed` says how the fault is kept, and `failed` whether a call of the
-- folder failed.
pub record Reads (before after : StoreSeen) (Closed : Option ShelfCall → Option ShelfCall → Type 0) (failed : Bool) : Type 0 where
  pub closes : Closed before.fault after.fault
  pub kinds : after.kinds ≡ before.kinds
  pub same : Goes before.folder.told after.folder.told Stays
  pub fits : FitsUnlessBroken after.kinds after.fault after.folder.told
  pub cause : RisesExactlyIf before.folder.faults after.folder.faults failed

-- the same of a call that answers a fault of the store
abbrev pub StoreReads : {T : Type 0} → StoreSeen → StoreSeen → Result T StoreFault → Type 0
StoreReads before after result = Reads before after (λ old new. Closes old new result) (store_failed result)

-- why a folder was not taken for a repository
abbrev pub HasOpenCause : OpenFault → Folder → Type 0
HasOpenCause open_fault.NoStore s = s.disk.published format_name ≡ None
HasOpenCause open_fault.UnknownFormat s = HasOtherFormat s.disk.published
HasOpenCause open_fault.BadBase s = HasFormat s.disk.published × HasBadBase s.disk.published
HasOpenCause (open_fault.Gap number) s = HasFormat s.disk.published × IsGap s.disk.published number
HasOpenCause (open_fault.Shelf call) s = ⊤
HasOpenCause open_fault.NoMemory s = ⊤

-- why no recording was started, by the number of runs and the fault that was kept before
abbrev pub HasStartCause : ℕ → Option ShelfCall → StartFault → Type 0
HasStartCause runs fault start_fault.Full = (fault ≡ None) × (runs ≡ most_runs)
HasStartCause runs fault (start_fault.Store (Shelf call)) = (fault ≡ None) × (runs < most_runs) × (call ≡ StartDraft)
HasStartCause runs fault (start_fault.Store (Closed call)) = fault ≡ Some call
HasStartCause runs fault start_fault.NoMemory = (fault ≡ None) × (runs < most_runs)

-- what is kept of it
abbrev pub fault_after_start : Option ShelfCall → StartFault → Option ShelfCall
fault_after_start before start_fault.Full = before
fault_after_start before (start_fault.Store (Shelf call)) = Some call
fault_after_start before (start_fault.Store (Closed call)) = before
fault_after_start before start_fault.NoMemory = before

-- a call of the folder failed as a run was begun, and not before it
abbrev pub has_start_failed : StartFault → Bool
has_start_failed start_fault.Full = false
has_start_failed (start_fault.Store (Shelf call)) = true
has_start_failed (start_fault.Store (Closed call)) = false
has_start_failed start_fault.NoMemory = false

-- what the folder is then
abbrev pub StartFails : StartFault → Folder → Folder → Type 0
StartFails start_fault.Full s t = Stays s t
StartFails (start_fault.Store (Shelf call)) s t = Dropped s t
StartFails (start_fault.Store (Closed call)) s t = Stays s t
StartFails start_fault.NoMemory s t = Stays s t

-- a recording of a run of this kind, of a store that had this
pub record StartsFrom {H : Type 0} (kinds : List Bool) (fault : Option ShelfCall) (partial : Bool) (recorder : Recorder H) : Type 0 where
  pub kinds_are : recorder_kinds recorder ≡ kinds
  pub partial_is : recorder_partial recorder ≡ partial
  pub open_still : recorder_fault recorder ≡ None
  pub unbroken : fault ≡ None
  pub few : length kinds < most_runs

-- A packet was not added: the call failed and may have added some of its first bytes, or the recorder was closed and
-- nothing was added.
abbrev pub AddFails : List ℕ → StoreFault → Folder → Folder → Type 0
AddFails packet (Shelf call) s t = (call ≡ Append) × GrownInPart packet s t
AddFails packet (Closed call) s t = Stays s t

-- a run was not kept: this call failed, or the recorder was closed and nothing was done
abbrev pub FinishFails : List ℕ → StoreFault → Folder → Folder → Type 0
FinishFails name (Shelf call) s t = OfDraft (λ bytes. PlaceFails name bytes call) s t
FinishFails name (Closed call) s t = Stays s t

-- a stop leaves what one before might have left, or the run that was recorded beside the files as they were
abbrev pub PassesRecorded : ℕ → Bool → Folder → Folder → Type 0
PassesRecorded number partial s t = PassesOld s t ⊎ OfDraft (λ bytes. PassesRun number (run_of partial bytes)) s t

-- a fault of the folder is told with this call, which is the only one that is made
abbrev pub TellsOf : ShelfCall → StoreFault → Type 0
TellsOf only (Shelf call) = call ≡ only
TellsOf only (Closed call) = ⊤
