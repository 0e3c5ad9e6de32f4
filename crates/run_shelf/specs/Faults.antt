-- When a count of faults may rise, by what a call answered (docs/DISK.md, faults).
use Rattle.std.specs.Prelude.{Bool, true, false, Result, Ok, Err}
use Rattle.run_shelf.specs.declared.faults.InitFault.{InitFault}
use Rattle.run_shelf.specs.declared.faults.InitFault.TheVariants.{Exists, Shelf}
use Rattle.run_shelf.specs.declared.faults.FileFault.{FileFault}
use Rattle.run_shelf.specs.declared.faults.FileFault.TheVariants as file_fault
use Rattle.run_shelf.specs.declared.faults.OpenFault.{OpenFault}
use Rattle.run_shelf.specs.declared.faults.OpenFault.TheVariants as open_fault

-- a call of the folder failed as the repository was made
abbrev pub init_failed : {T : Type 0} → Result T InitFault → Bool
init_failed (Ok done) = false
init_failed (Err Exists) = false
init_failed (Err (Shelf call)) = true

-- a call of the folder failed as the repository was opened
abbrev pub open_failed : {T : Type 0} → Result T OpenFault → Bool
open_failed (Ok found) = false
open_failed (Err open_fault.NoStore) = false
open_failed (Err open_fault.UnknownFormat) = false
open_failed (Err open_fault.BadBase) = false
open_failed (Err (open_fault.Gap number)) = false
open_failed (Err (open_fault.Shelf call)) = true
open_failed (Err open_fault.NoMemory) = false

-- the same of a read of a whole file
abbrev pub file_failed : {T : Type 0} → Result T FileFault → Bool
file_failed (Ok found) = false
file_failed (Err (file_fault.Shelf call)) = true
file_failed (Err file_fault.NoMemory) = false
