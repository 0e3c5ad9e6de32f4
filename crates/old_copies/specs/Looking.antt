-- The looks at both folders, and the parts of a copy.
use Rattle.std.specs.Prelude.{◌≡◌, ◌≢◌, ⊤, ℕ, List, Option, Some, None, IsSome, Contains}
use Rattle.sub_number.specs.Texts.{IsShortText}
use Rattle.edge_io.specs.Disk.{Files, Folder}
use Rattle.edge_io.specs.MemState.{KeptForGood}
use Rattle.edge_io.specs.Steps.{Settled}
use Rattle.run_shelf.specs.Adoption.{IsOld}
use Rattle.run_shelf.specs.Outcomes.{FailsAt}
use Rattle.run_shelf.specs.Repository.{format_name, HasFormat}
use Rattle.old_folder.specs.Looking.{HasStrangeFormat, LacksCount}
use Rattle.old_folder.specs.declared.faults.OldFault.{OldFault}
use Rattle.old_folder.specs.declared.faults.OldFault.TheVariants as look
use Rattle.old_copies.specs.Copying.{IsCopiedFirst}
use Rattle.old_copies.specs.declared.faults.OldCopyFault.{OldCopyFault}
use Rattle.old_copies.specs.declared.faults.OldCopyFault.TheVariants.{Here, OldHere, StrangeHere, NoStore, NotOld, UnknownFormat, BadCount, OtherFiles, Site, Shelf, NoMemory}
use Rattle.old_copies.specs.declared.file.Compared.{Compared}
use Rattle.old_copies.specs.declared.file.Compared.TheVariants.{Same, New, Other}

-- ---- the folder here

-- it has no `format`, and all of it is on the disk for good
pub record IsFree (s t : Folder) : Type 0 where
  pub none : s.disk.published format_name ≡ None
  pub settled : Settled s t

-- why it is not free, or not known to be; no file of it changes
abbrev pub HereFails : OldCopyFault → Folder → Folder → Type 0
HereFails Here s t = HasFormat s.disk.published × Settled s t
HereFails OldHere s t = IsOld s.disk.published × Settled s t
HereFails StrangeHere s t = HasStrangeFormat s.disk.published × Settled s t
HereFails (Shelf call) s t = FailsAt call s t
HereFails NoMemory s t = Settled s t
HereFails fault s t = ⊥

-- each file of a text's name has one that is copied, where there are so many runs
abbrev pub HoldsNoOther : ℕ → Folder → Type 0
HoldsNoOther count s = (name : List ℕ) → IsShortText name → IsSome (s.disk.published name) → IsCopiedFirst count name

-- one of the names is another
pub record HasOtherIn (count : ℕ) (names : List (List ℕ)) : Type 0 where
  pub name : List ℕ
  pub listed : Contains names name
  pub other : IsCopiedFirst count name → ⊥

-- a file of a text's name has another one
pub record HasOtherName (count : ℕ) (files : Files) : Type 0 where
  pub name : List ℕ
  pub short : IsShortText name
  pub there : IsSome (files name)
  pub other : IsCopiedFirst count name → ⊥

-- why the names are not known to be such
abbrev pub CopyNamesFail : ℕ → OldCopyFault → Folder → Type 0
CopyNamesFail count OtherFiles s = HasOtherName count s.disk.published
CopyNamesFail count (Shelf call) s = ⊤
CopyNamesFail count NoMemory s = ⊤
CopyNamesFail count fault s = ⊥

-- ---- the other folder

-- a read of it failed, or memory was wanting
abbrev pub IsOfSite : OldCopyFault → Type 0
IsOfSite Site = ⊤
IsOfSite NoMemory = ⊤
IsOfSite fault = ⊥

-- a call of the folder here failed, or memory was wanting
abbrev pub IsOfFolder : OldCopyFault → Type 0
IsOfFolder (Shelf call) = ⊤
IsOfFolder NoMemory = ⊤
IsOfFolder fault = ⊥

-- the file that is there, or not, is kept in memory
abbrev pub TakesUp : List ℕ → Option (List ℕ) → Folder → Folder → Type 0
TakesUp name None s t = t ≡ s
TakesUp name (Some bytes) s t = KeptForGood name bytes s t

-- a fault of the look in memory, as one of the copy
abbrev pub copy_fault : OldFault → OldCopyFault
copy_fault look.NoStore = NoStore
copy_fault look.NotOld = NotOld
copy_fault look.UnknownFormat = UnknownFormat
copy_fault look.BadCount = BadCount
copy_fault (look.Shelf call) = NoMemory
copy_fault look.NoMemory = NoMemory

-- why the other folder is none of the original tool
abbrev pub CopyLookFails : (old : Files) → OldCopyFault → Type 0
CopyLookFails old NoStore = old format_name ≡ None
CopyLookFails old NotOld = HasFormat old
CopyLookFails old UnknownFormat = HasStrangeFormat old
CopyLookFails old BadCount = LacksCount old
CopyLookFails old Site = ⊤
CopyLookFails old NoMemory = ⊤
CopyLookFails old fault = ⊥

-- ---- one file

-- how the file there compares with the one here
abbrev pub Compares : (there here : Option (List ℕ)) → Compared → Type 0
Compares there here Same = here ≡ there
Compares there here (New bytes) = (there ≡ Some bytes) × (here ≡ None)
Compares there here Other = IsSome here × (here ≢ there)
