-- Where a named refusal has its cause, it comes, but for a call that failed or want of memory.
use Rattle.std.specs.Prelude.{◌≡◌, ⊤, ℕ, List, Result, Ok, Err}
use Rattle.run_shelf.specs.declared.faults.InitFault.{InitFault}
use Rattle.run_shelf.specs.declared.faults.InitFault.TheVariants as init_fault
use Rattle.run_shelf.specs.declared.faults.OpenFault.{OpenFault}
use Rattle.run_shelf.specs.declared.faults.OpenFault.TheVariants as open_fault
use Rattle.old_upgrade.specs.declared.faults.UpgradeFault.{UpgradeFault}
use Rattle.old_upgrade.specs.declared.faults.UpgradeFault.TheVariants as upgrade_fault
use Rattle.command_steps.specs.declared.input_recorder.RecordFault.{RecordFault}
use Rattle.command_steps.specs.declared.input_recorder.RecordFault.TheVariants as record_fault

-- a call of the folder failed while a repository was made
abbrev pub InitEnds : {T : Type 0} → Result T InitFault → Type 0
InitEnds (Ok value) = ⊥
InitEnds (Err init_fault.Exists) = ⊥
InitEnds (Err (init_fault.Shelf call)) = ⊤

-- a call of the folder failed while it was looked at, or memory was wanting
abbrev pub OpenEnds : {T : Type 0} → Result T OpenFault → Type 0
OpenEnds (Ok value) = ⊥
OpenEnds (Err open_fault.NoStore) = ⊥
OpenEnds (Err open_fault.UnknownFormat) = ⊥
OpenEnds (Err open_fault.BadBase) = ⊥
OpenEnds (Err (open_fault.Gap number)) = ⊥
OpenEnds (Err (open_fault.Shelf call)) = ⊤
OpenEnds (Err open_fault.NoMemory) = ⊤

-- a call failed while the input was recorded, or memory was wanting
abbrev pub RecordEnds : {T : Type 0} → Result T RecordFault → Type 0
RecordEnds (Ok value) = ⊥
RecordEnds (Err (record_fault.Shelf call)) = ⊤
RecordEnds (Err record_fault.Input) = ⊤
RecordEnds (Err record_fault.TooLong) = ⊥
RecordEnds (Err record_fault.Site) = ⊤
RecordEnds (Err (record_fault.NoFile name)) = ⊥
RecordEnds (Err (record_fault.FileTooLong name)) = ⊥
RecordEnds (Err record_fault.NoMemory) = ⊤

-- this file was refused as one that is missing
abbrev pub IsNoFile : {T : Type 0} → List ℕ → Result T RecordFault → Type 0
IsNoFile name (Ok value) = ⊥
IsNoFile name (Err (record_fault.Shelf call)) = ⊥
IsNoFile name (Err record_fault.Input) = ⊥
IsNoFile name (Err record_fault.TooLong) = ⊥
IsNoFile name (Err record_fault.Site) = ⊥
IsNoFile name (Err (record_fault.NoFile given)) = given.now ≡ name
IsNoFile name (Err (record_fault.FileTooLong given)) = ⊥
IsNoFile name (Err record_fault.NoMemory) = ⊥

-- this file was refused as one that is too long
abbrev pub IsFileTooLong : {T : Type 0} → List ℕ → Result T RecordFault → Type 0
IsFileTooLong name (Ok value) = ⊥
IsFileTooLong name (Err (record_fault.Shelf call)) = ⊥
IsFileTooLong name (Err record_fault.Input) = ⊥
IsFileTooLong name (Err record_fault.TooLong) = ⊥
IsFileTooLong name (Err record_fault.Site) = ⊥
IsFileTooLong name (Err (record_fault.NoFile given)) = ⊥
IsFileTooLong name (Err (record_fault.FileTooLong given)) = given.now ≡ name
IsFileTooLong name (Err record_fault.NoMemory) = ⊥

-- a call of the folder failed while it was upgraded, or memory was wanting
abbrev pub UpgradeEnds : {T : Type 0} → Result T UpgradeFault → Type 0
UpgradeEnds (Ok value) = ⊥
UpgradeEnds (Err upgrade_fault.NoStore) = ⊥
UpgradeEnds (Err upgrade_fault.NotOld) = ⊥
UpgradeEnds (Err upgrade_fault.UnknownFormat) = ⊥
UpgradeEnds (Err upgrade_fault.BadCount) = ⊥
UpgradeEnds (Err (upgrade_fault.BadRun number)) = ⊥
UpgradeEnds (Err upgrade_fault.BadFailing) = ⊥
UpgradeEnds (Err (upgrade_fault.Shelf call)) = ⊤
UpgradeEnds (Err upgrade_fault.NoMemory) = ⊤
