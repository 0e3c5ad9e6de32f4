-- The steps of an upgrade: a file that is read piece by piece and recorded, and one run that is converted.
use Rattle.std.specs.Prelude.{◌≡◌, ⊤, ℕ, ◌+◌, ◌≤◌, Some, IsSomeAnd, List, ◌++◌, length, take, drop}
use Rattle.edge_io.specs.Disk.{Folder}
use Rattle.edge_io.specs.Steps.{Grown}
use Rattle.packet_codec.specs.Packets.{ArePacketsOf}
use Rattle.packet_codec.specs.declared.event.Event.{Event}
use Rattle.run_shelf.specs.Adoption.{SameButNew}
use Rattle.run_shelf.specs.Drafts.{SameButDraft}
use Rattle.run_shelf.specs.Images.{AtRest, KeepsFile}
use Rattle.run_shelf.specs.Repository.{full_name, partial_name}
use Rattle.run_shelf.specs.declared.faults.ShelfCall.{ShelfCall}
use Rattle.run_shelf.specs.declared.faults.ShelfCall.TheVariants.{Names, Length, ReadAt, StartDraft, Append, SyncDraft, Publish, SyncFolder}
use Rattle.old_folder.specs.Converting.{Converts, StaysOld}
use Rattle.old_folder.specs.declared.faults.OldFault.{OldFault}
use Rattle.old_folder.specs.declared.faults.OldFault.TheVariants as old
use Rattle.old_folder.specs.Olds.{failing_name, IsOldWith}
use Rattle.old_runs.specs.Fed.{HasFed, HasHeardFile}
use Rattle.old_runs.specs.Files.{IsDamaged}
use Rattle.old_runs.specs.declared.failing_tests.OldFailing.{OldFailing}
use Rattle.old_runs.specs.declared.file.OldFile.{OldFile}
use Rattle.old_upgrade.specs.Upgrading.{IsConvertedFrom, AreConverted, AreFailing, HasBadRun, HasBadFailing, IsEither}
use Rattle.old_upgrade.specs.declared.faults.UpgradeFault.{UpgradeFault}
use Rattle.old_upgrade.specs.declared.faults.UpgradeFault.TheVariants.{NoStore, NotOld, UnknownFormat, BadCount, BadRun, BadFailing, Shelf, NoMemory}

-- ---- a run's file, piece by piece

-- Up to this place the file was fed, and what it told so far stands behind the draft.
pub record HasRecordedTo (name : List ℕ) (place : ℕ) (file : OldFile) (s t : Folder) : Type 0 where
  pub bytes : List ℕ
  pub there : s.disk.published name ≡ Some bytes
  pub within : place ≤ length bytes
  pub given : List Event
  pub fed : HasFed file (take place bytes) given
  pub packets : List ℕ
  pub are : ArePacketsOf given packets
  pub grown : Grown packets s t

-- the same of all of it
pub record HasRecordedAll (name : List ℕ) (file : OldFile) (s t : Folder) : Type 0 where
  pub bytes : List ℕ
  pub there : s.disk.published name ≡ Some bytes
  pub given : List Event
  pub fed : HasFed file bytes given
  pub packets : List ℕ
  pub are : ArePacketsOf given packets
  pub grown : Grown packets s t

-- what was told behind these events, by a reader that is then such a one
pub record RecordsMore (given : List Event) (Then : List Event → Type 0) (s t : Folder) : Type 0 where
  pub more : List Event
  pub packets : List ℕ
  pub are : ArePacketsOf more packets
  pub grown : Grown packets s t
  pub holds : Then (given ++ more)

-- the bytes of the file from this place on, as many as there are and fit, were fed and recorded
pub record RecordsPiece (name : List ℕ) (place room count : ℕ) (old new : OldFile) (s t : Folder) : Type 0 where
  pub bytes : List ℕ
  pub there : s.disk.published name ≡ Some bytes
  pub size : count ≡ length (take room (drop place bytes))
  pub each : (front : List ℕ) (given : List Event) → HasFed old front given → RecordsMore given (HasFed new (front ++ take room (drop place bytes))) s t

-- ---- a run

-- what the file of the run becomes stands behind the draft
pub record RecordsRun (number : ℕ) (s t : Folder) : Type 0 where
  pub bytes : List ℕ
  pub is : IsConvertedFrom (s.disk.published (full_name number)) bytes
  pub grown : Grown bytes s t

-- the file of this run is damaged
abbrev pub IsDamagedRun : ℕ → Folder → Type 0
IsDamagedRun number s = IsSomeAnd (s.disk.published (full_name number)) IsDamaged

-- why a run's file was not recorded
abbrev pub RecordFails : ℕ → UpgradeFault → Folder → Folder → Type 0
RecordFails number NoStore s t = ⊥
RecordFails number NotOld s t = ⊥
RecordFails number UnknownFormat s t = ⊥
RecordFails number BadCount s t = ⊥
RecordFails number (BadRun which) s t = (which ≡ number) × IsDamagedRun number s
RecordFails number BadFailing s t = ⊥
RecordFails number (Shelf call) s t = ⊤
RecordFails number NoMemory s t = ⊤

-- a call of the folder failed
abbrev pub IsShelfFault : UpgradeFault → Type 0
IsShelfFault NoStore = ⊥
IsShelfFault NotOld = ⊥
IsShelfFault UnknownFormat = ⊥
IsShelfFault BadCount = ⊥
IsShelfFault (BadRun which) = ⊥
IsShelfFault BadFailing = ⊥
IsShelfFault (Shelf call) = ⊤
IsShelfFault NoMemory = ⊥

-- the run stands converted for good
pub record ConvertsRun (number : ℕ) (s t : Folder) : Type 0 where
  pub bytes : List ℕ
  pub is : IsConvertedFrom (s.disk.published (full_name number)) bytes
  pub kept : KeepsFile (partial_name number) bytes s t

-- why it does not, and what reads give then
abbrev pub ConvertFails : ℕ → UpgradeFault → Folder → Folder → Type 0
ConvertFails number NoStore s t = ⊥
ConvertFails number NotOld s t = ⊥
ConvertFails number UnknownFormat s t = ⊥
ConvertFails number BadCount s t = ⊥
ConvertFails number (BadRun which) s t = (which ≡ number) × IsDamagedRun number s × SameButDraft s t
ConvertFails number BadFailing s t = ⊥
ConvertFails number (Shelf call) s t = SameButNew (number + 1) s.disk.published t.disk.published
ConvertFails number NoMemory s t = SameButDraft s t

-- ---- all runs

-- so many runs stand converted
pub record HasConvertedTo (done : ℕ) (s t : Folder) : Type 0 where
  pub runs : List (List ℕ)
  pub counted : length runs ≡ done
  pub are : AreConverted s.disk.published runs
  pub converts : Converts runs s t

-- the folder, as it was found: at rest, of the original tool, with so many runs
pub record IsFoundOld (count : ℕ) (s : Folder) : Type 0 where
  pub rest : AtRest s
  pub old : IsOldWith count s.disk.published

-- why not all runs were converted, and what reads give then
abbrev pub AllFail : UpgradeFault → Folder → Folder → Type 0
AllFail NoStore s t = ⊥
AllFail NotOld s t = ⊥
AllFail UnknownFormat s t = ⊥
AllFail BadCount s t = ⊥
AllFail (BadRun number) s t = HasBadRun number s.disk.published × StaysOld s.disk.published t.disk.published
AllFail BadFailing s t = ⊥
AllFail (Shelf call) s t = StaysOld s.disk.published t.disk.published
AllFail NoMemory s t = StaysOld s.disk.published t.disk.published

-- ---- what failed last

-- these are the ids that failed last
abbrev pub FailedLast : List (List ℕ) → Folder → Type 0
FailedLast ids s = AreFailing (s.disk.published failing_name) ids

-- why they were not told
abbrev pub FailingFails : UpgradeFault → Folder → Type 0
FailingFails NoStore s = ⊥
FailingFails NotOld s = ⊥
FailingFails UnknownFormat s = ⊥
FailingFails BadCount s = ⊥
FailingFails (BadRun number) s = ⊥
FailingFails BadFailing s = IsSomeAnd (s.disk.published failing_name) IsDamaged
FailingFails (Shelf call) s = ⊤
FailingFails NoMemory s = ⊤

-- up to this place the file was heard
pub record HasHeardTo (place : ℕ) (failing : OldFailing) (s : Folder) : Type 0 where
  pub bytes : List ℕ
  pub there : s.disk.published failing_name ≡ Some bytes
  pub within : place ≤ length bytes
  pub heard : HasHeardFile failing (take place bytes)

-- all of it was heard
pub record HasHeardAll (failing : OldFailing) (s : Folder) : Type 0 where
  pub bytes : List ℕ
  pub there : s.disk.published failing_name ≡ Some bytes
  pub heard : HasHeardFile failing bytes

-- the bytes of the file from this place on, as many as there are and fit, were heard
pub record HearsPiece (place room count : ℕ) (old new : OldFailing) (s : Folder) : Type 0 where
  pub bytes : List ℕ
  pub there : s.disk.published failing_name ≡ Some bytes
  pub size : count ≡ length (take room (drop place bytes))
  pub each : (front : List ℕ) → HasHeardFile old front → HasHeardFile new (front ++ take room (drop place bytes))

-- ---- behind the look

-- This call of the folder that was found failed. Only where a publish did, or the barrier behind it, may it be the repository.
abbrev pub FoundFailsAt : ShelfCall → Folder → Folder → Type 0
FoundFailsAt Names s t = StaysOld s.disk.published t.disk.published
FoundFailsAt Length s t = StaysOld s.disk.published t.disk.published
FoundFailsAt ReadAt s t = StaysOld s.disk.published t.disk.published
FoundFailsAt StartDraft s t = StaysOld s.disk.published t.disk.published
FoundFailsAt Append s t = StaysOld s.disk.published t.disk.published
FoundFailsAt SyncDraft s t = StaysOld s.disk.published t.disk.published
FoundFailsAt Publish s t = IsEither s.disk.published t.disk.published
FoundFailsAt SyncFolder s t = IsEither s.disk.published t.disk.published

-- why the folder that was found was not upgraded, and what it is then
abbrev pub FoundFails : UpgradeFault → Folder → Folder → Type 0
FoundFails NoStore s t = ⊥
FoundFails NotOld s t = ⊥
FoundFails UnknownFormat s t = ⊥
FoundFails BadCount s t = ⊥
FoundFails (BadRun number) s t = HasBadRun number s.disk.published × StaysOld s.disk.published t.disk.published
FoundFails BadFailing s t = HasBadFailing s.disk.published × StaysOld s.disk.published t.disk.published
FoundFails (Shelf call) s t = FoundFailsAt call s t
FoundFails NoMemory s t = StaysOld s.disk.published t.disk.published

-- a fault of the look, as one of the upgrade
abbrev pub fault_of_look : OldFault → UpgradeFault
fault_of_look old.NoStore = NoStore
fault_of_look old.NotOld = NotOld
fault_of_look old.UnknownFormat = UnknownFormat
fault_of_look old.BadCount = BadCount
fault_of_look (old.Shelf call) = Shelf call
fault_of_look old.NoMemory = NoMemory
