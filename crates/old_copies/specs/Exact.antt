-- Where a copy is refused by a name, and where it may end otherwise.
use Rattle.std.specs.Prelude.{◌≡◌, ◌⊎◌, ℕ, None, IsSomeAnd, List, Result, Err}
use Rattle.edge_io.specs.Causes.{Rose}
use Rattle.edge_io.specs.Disk.{Files}
use Rattle.run_shelf.specs.Repository.{format_name}
use Rattle.old_copies.specs.Copying.{Places, folder_in}
use Rattle.old_copies.specs.declared.faults.OldCopyFault.{OldCopyFault}
use Rattle.old_copies.specs.declared.faults.OldCopyFault.TheVariants.{NoMemory}

-- both folders are told, and this is true of the other one's files and of those here
abbrev pub AreTold : (from : List ℕ) → Places → (Files → Files → Type 0) → Type 0
AreTold from before cause = IsSomeAnd before.site.told (λ files. IsSomeAnd before.folder.told (λ s. cause (folder_in from files) s.disk.published))

-- no file `format` is among the files here, and this is true of the other folder's
abbrev pub IsFreeFor : (Files → Type 0) → Files → Files → Type 0
IsFreeFor cause old files = (files format_name ≡ None) × cause old

-- memory was wanting, or a call of the folder here failed, or a read of the other one
abbrev pub CopyEnds : {T : Type 0} → (before after : Places) → Result T OldCopyFault → Type 0
CopyEnds before after result = (result ≡ Err NoMemory) ⊎ Rose before.folder.faults after.folder.faults ⊎ Rose before.site.faults after.site.faults
