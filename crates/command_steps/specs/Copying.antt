-- The step that copies a run from the folder to the output, piece by piece.
use Rattle.std.specs.Prelude.{◌≡◌, ℕ, Bool, true, false, IfSome, IsSomeAnd, IfOk, OnOk, List, ◌++◌, take, drop, length, Result, Ok, Err}
use Rattle.std.specs.Io.KnownBytes.{Appends}
use Rattle.edge_io.specs.Disk.{Folder}
use Rattle.edge_io.specs.Steps.{Goes, Stays}
use Rattle.edge_io.specs.Causes.{RisesExactlyIf}
use Rattle.run_shelf.specs.Repository.{run_at}
use Rattle.command_steps.specs.Outside.{Shown}
use Rattle.command_steps.specs.Told.{fault_fails}
use Rattle.command_steps.specs.declared.run_copy.CopyFault.{CopyFault}
use Rattle.command_steps.specs.declared.run_copy.CopyFault.TheVariants.{Read, Write}
use Rattle.command_steps.specs.declared.answer.Refusal.{Refusal}
use Rattle.command_steps.specs.declared.answer.Refusal.TheVariants.{Tell, Print}

-- ---- which part failed

-- whether a call of the folder failed
abbrev pub read_failed : {T : Type 0} → Result T CopyFault → Bool
read_failed (Ok value) = false
read_failed (Err (Read fault)) = fault_fails fault
read_failed (Err (Write fault)) = false

-- whether a write failed
abbrev pub write_failed : {T : Type 0} → Result T CopyFault → Bool
write_failed (Ok value) = false
write_failed (Err (Read fault)) = false
write_failed (Err (Write fault)) = true

-- the folder stays, and the count of that part rises which failed, and no other
pub record Counts {T : Type 0} (before after : Shown) (result : Result T CopyFault) : Type 0 where
  pub same : Goes before.folder.told after.folder.told Stays
  pub reads : RisesExactlyIf before.folder.faults after.folder.faults (read_failed result)
  pub writes : RisesExactlyIf before.out.faults after.out.faults (write_failed result)

-- ---- the whole run

-- these are the bytes of the run of this number, which there is
abbrev pub HasBytesAt : ℕ → List ℕ → Folder → Type 0
HasBytesAt number bytes s = IsSomeAnd (run_at s.disk.published number) (λ run. bytes ≡ run.bytes)

-- the run of this number, which there is, begins with these bytes
abbrev pub BeginsAt : ℕ → List ℕ → Folder → Type 0
BeginsAt number bytes s = IsSomeAnd (run_at s.disk.published number) (λ run. (rest : List ℕ) × (run.bytes ≡ bytes ++ rest))

-- The output took the first bytes of the run of this number, and all of them where it was done.
pub record CopiesRun (number : ℕ) (before after : Shown) (result : Result (Unit {0}) CopyFault) : Type 0 where
  pub bytes : List ℕ
  pub taken : Appends before.out.told after.out.told bytes
  pub front : IfSome before.folder.told (BeginsAt number bytes)
  pub whole : OnOk result (IfSome before.folder.told (HasBytesAt number bytes))
  pub counts : Counts before after result

-- what a command refuses that copies
abbrev pub copy_refusal : CopyFault → Refusal
copy_refusal (Read fault) = Tell fault
copy_refusal (Write fault) = Print fault

-- ---- one piece

-- from this place on, the run of this number goes on with these bytes
abbrev pub GoesOnAt : ℕ → ℕ → List ℕ → Folder → Type 0
GoesOnAt number place bytes s = IsSomeAnd (run_at s.disk.published number) (λ run. (rest : List ℕ) × (drop place run.bytes ≡ bytes ++ rest))

-- of the run of this number these are the bytes from this place on, as many as there are and have room
abbrev pub HasPieceAt : ℕ → ℕ → ℕ → List ℕ → Folder → Type 0
HasPieceAt number place room bytes s = IsSomeAnd (run_at s.disk.published number) (λ run. bytes ≡ take room (drop place run.bytes))

-- The same of one piece, from this place on, and of how many bytes it has.
pub record CopiesPiece (number place room : ℕ) (before after : Shown) (result : Result ℕ CopyFault) : Type 0 where
  pub bytes : List ℕ
  pub taken : Appends before.out.told after.out.told bytes
  pub front : IfSome before.folder.told (GoesOnAt number place bytes)
  pub size : IfOk result (λ count. count ≡ length bytes)
  pub whole : OnOk result (IfSome before.folder.told (HasPieceAt number place room bytes))
  pub counts : Counts before after result
