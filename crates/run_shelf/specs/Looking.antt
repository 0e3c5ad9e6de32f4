-- What a look at a folder finds, in which nothing changes.
use Rattle.std.specs.Prelude.{◌≡◌, ⊤, ℕ, Bool, Option, None, Some, List, if◌then◌else◌}
use Rattle.edge_io.specs.Disk.{Folder}
use Rattle.run_shelf.specs.declared.faults.ShelfCall.{ShelfCall}
use Rattle.run_shelf.specs.declared.faults.ShelfCall.TheVariants.{Names, Length, ReadAt, StartDraft, Append, SyncDraft, Publish, SyncFolder}
use Rattle.run_shelf.specs.declared.faults.OpenFault.{OpenFault}
use Rattle.run_shelf.specs.declared.faults.OpenFault.TheVariants.{NoStore, UnknownFormat, BadBase, Gap, Shelf, NoMemory}
use Rattle.run_shelf.specs.declared.base_set.Base.{Base as ABase}
use Rattle.run_shelf.specs.declared.names.Format.{Format}
use Rattle.run_shelf.specs.declared.names.Format.TheVariants.{First, Second}
use Rattle.run_shelf.specs.Bases.{Base}
use Rattle.run_shelf.specs.Repository.{IsRepository, HasKinds, format_name, format_bytes, based_format_bytes, HasFormat, HasOtherFormat, HasBadBase, HasBaseForm, LacksBaseForm, is_based, base_of, IsGap}

-- a repository of runs of these kinds
pub record ShowsKinds (kinds : List Bool) (s : Folder) : Type 0 where
  pub repository : IsRepository s.disk.published
  pub kinds_are : HasKinds s.disk.published kinds

-- a call of a look
abbrev pub IsLook : ShelfCall → Type 0
IsLook Names = ⊤
IsLook Length = ⊤
IsLook ReadAt = ⊤
IsLook StartDraft = ⊥
IsLook Append = ⊥
IsLook SyncDraft = ⊥
IsLook Publish = ⊥
IsLook SyncFolder = ⊥

-- why the folder is no repository
abbrev pub LookFails : OpenFault → Folder → Folder → Type 0
LookFails NoStore s t = s.disk.published format_name ≡ None
LookFails UnknownFormat s t = HasOtherFormat s.disk.published
LookFails BadBase s t = HasFormat s.disk.published × HasBadBase s.disk.published
LookFails (Gap number) s t = HasFormat s.disk.published × IsGap s.disk.published number
LookFails (Shelf call) s t = IsLook call
LookFails NoMemory s t = ⊤

-- why its `format` is not the right one
abbrev pub FormatFails : OpenFault → Folder → Folder → Type 0
FormatFails NoStore s t = s.disk.published format_name ≡ None
FormatFails UnknownFormat s t = HasOtherFormat s.disk.published
FormatFails BadBase s t = ⊥
FormatFails (Gap number) s t = ⊥
FormatFails (Shelf call) s t = IsLook call
FormatFails NoMemory s t = ⊥

-- the bytes of this format
abbrev pub bytes_of_format : Format → List ℕ
bytes_of_format First = format_bytes
bytes_of_format Second = based_format_bytes

-- the folder has this format
abbrev pub HasThisFormat : Format → Folder → Type 0
HasThisFormat format s = s.disk.published format_name ≡ Some (bytes_of_format format)

-- the base that was read
abbrev pub seen_base : ABase → Base
seen_base base = record { count = base.count; ids = base.ids }

-- how many calls read the base: none under the first format
abbrev pub base_calls : Option Folder → ℕ
base_calls None = 2
base_calls (Some s) = if is_based (s.disk.published format_name) then 2 else 0

-- this is the base of the folder, and has its form
pub record ReadsBase (base : ABase) (s : Folder) : Type 0 where
  pub form : HasBaseForm s.disk.published
  pub is : seen_base base ≡ base_of s.disk.published

-- so many runs are those that the base of the folder counts
pub record CountsOld (count : ℕ) (s : Folder) : Type 0 where
  pub form : HasBaseForm s.disk.published
  pub is : count ≡ (base_of s.disk.published).count

-- why the base was not read
abbrev pub BaseFails : OpenFault → Folder → Folder → Type 0
BaseFails NoStore s t = ⊥
BaseFails UnknownFormat s t = ⊥
BaseFails BadBase s t = LacksBaseForm s.disk.published
BaseFails (Gap number) s t = ⊥
BaseFails (Shelf call) s t = IsLook call
BaseFails NoMemory s t = ⊤
