-- The old files of another folder, copied into this one (docs/FORMATS.md, "Folders of another program").
use Rattle.std.specs.Prelude.{◌≡◌, ◌≢◌, ◌⊎◌, ⊤, ℕ, ◌<◌, Bool, true, false, Option, Some, None, IfSome, IsSome, List, ◌∷◌, ◌++◌, Result, Err, OnOk, IfErr}
use Rattle.edge_io.specs.Causes.{RisesExactlyIf}
use Rattle.edge_io.specs.Disk.{Files, Folder, IsImage}
use Rattle.edge_io.specs.Moments.{Passes}
use Rattle.edge_io.specs.Seen.{Seen}
use Rattle.edge_io.specs.Steps.{Goes}
use Rattle.sub_number.specs.Texts.{IsShortText}
use Rattle.run_shelf.specs.Adoption.{IsOld}
use Rattle.run_shelf.specs.Images.{AtRest}
use Rattle.run_shelf.specs.Repository.{full_name, format_name, HasFormat}
use Rattle.old_folder.specs.Looking.{HasStrangeFormat, LacksCount}
use Rattle.old_folder.specs.Olds.{next_name, failing_name, next_of}
use Rattle.old_copies.specs.declared.faults.OldCopyFault.{OldCopyFault}
use Rattle.old_copies.specs.declared.faults.OldCopyFault.TheVariants.{Here, OldHere, StrangeHere, NoStore, NotOld, UnknownFormat, BadCount, OtherFiles, Site, Shelf, NoMemory}

-- ---- the other folder

-- the path of a file of the folder of this path
abbrev pub path_below : List ℕ → List ℕ → List ℕ
path_below from name = from ++ 47 ∷ name

-- the files of that folder by their names, of all files by their paths
abbrev pub folder_in : List ℕ → Files → Files
folder_in from files = λ name. files (path_below from name)

-- the same where they are told
abbrev pub told_in : List ℕ → Option Files → Option Files
told_in from None = None
told_in from (Some files) = Some (folder_in from files)

-- ---- the names that are copied

-- this name
abbrev pub IsName : List ℕ → List ℕ → Type 0
IsName given name = name ≡ given

-- one or the other
abbrev pub Either : (A B : List ℕ → Type 0) → List ℕ → Type 0
Either A B name = A name ⊎ B name

-- the name of a full run below this number
abbrev pub IsRunBelow : ℕ → List ℕ → Type 0
IsRunBelow count name = (number : ℕ) × (number < count) × (name ≡ full_name number)

-- what is copied before `format`: the number that comes next, what failed last, and the runs below that number
abbrev pub IsCopiedFirst : ℕ → List ℕ → Type 0
IsCopiedFirst count = Either (Either (IsName next_name) (IsName failing_name)) (IsRunBelow count)

-- the same and `format`: the files of a folder of the original tool
abbrev pub IsCopied : ℕ → List ℕ → Type 0
IsCopied count = Either (IsCopiedFirst count) (IsName format_name)

-- ---- files here, some of which are those of the other folder

-- Each file is as before, or it has one of these names and, where the other folder is told, is that one's of its name: with the
-- same bytes, or absent as it is there.
abbrev pub Between : (Of : List ℕ → Type 0) → (told : Option Files) → (files image : Files) → Type 0
Between Of told files image = (name : List ℕ) → (image name ≡ files name) ⊎ (Of name × IfSome told (λ old. image name ≡ old name))

-- all files of these names are those of the other folder, and nothing else differs
pub record HasCopies (Of : List ℕ → Type 0) (old files image : Files) : Type 0 where
  pub each : (name : List ℕ) → Of name → image name ≡ old name
  pub between : Between Of (Some old) files image

-- each file of one of these names that stands here is the other folder's
abbrev pub HoldsOnlyCopies : (Of : List ℕ → Type 0) → (old files : Files) → Type 0
HoldsOnlyCopies Of old files = (name : List ℕ) → Of name → IsSome (files name) → files name ≡ old name

-- a file of one of these names stands here, and is not the other folder's
pub record HoldsOther (Of : List ℕ → Type 0) (old files : Files) : Type 0 where
  pub name : List ℕ
  pub named : Of name
  pub there : IsSome (files name)
  pub other : files name ≢ old name

-- ---- a step

-- this folder, and the files of the system, as they are seen at one moment
pub record Places : Type 0 where
  pub folder : Seen Folder
  pub site : Seen Files

-- both, which are seen so
abbrev pub places : Seen Folder → Seen Files → Places
places folder site = record { folder = folder; site = site }

-- a call of the folder here failed
abbrev pub folder_failed : {T : Type 0} → Result T OldCopyFault → Bool
folder_failed (Err (Shelf call)) = true
folder_failed result = false

-- a read of the other folder failed
abbrev pub site_failed : {T : Type 0} → Result T OldCopyFault → Bool
site_failed (Err Site) = true
site_failed result = false

-- why files of these names were not copied
abbrev pub StepFails : (Of : List ℕ → Type 0) → (old files : Files) → OldCopyFault → Type 0
StepFails Of old files OtherFiles = HoldsOther Of old files
StepFails Of old files Site = ⊤
StepFails Of old files (Shelf call) = ⊤
StepFails Of old files NoMemory = ⊤
StepFails Of old files fault = ⊥

-- a stop at each moment leaves what one at the first might have left, or some of the copies
abbrev pub PassesCopies : (Of : List ℕ → Type 0) → (told : Option Files) → Folder → Folder → Type 0
PassesCopies Of told s t = Passes (λ image. IsImage s.disk image ⊎ Between Of told s.disk.published image) s t

-- reads give the files as they were, or some of them as copies
abbrev pub ReadsCopies : (Of : List ℕ → Type 0) → (told : Option Files) → Folder → Folder → Type 0
ReadsCopies Of told s t = Between Of told s.disk.published t.disk.published

-- the copies are there, and what stood here under their names before had the same bytes
pub record Copies (Of : List ℕ → Type 0) (old : Files) (s t : Folder) : Type 0 where
  pub has : HasCopies Of old s.disk.published t.disk.published
  pub stood : HoldsOnlyCopies Of old s.disk.published

-- where both are told, the folder here goes this step, by the files of the other folder
abbrev pub GoesBy : (from : List ℕ) → (before after : Places) → (Files → Folder → Folder → Type 0) → Type 0
GoesBy from before after step = IfSome before.site.told (λ files. Goes before.folder.told after.folder.told (step (folder_in from files)))

-- The files of these names are copied, from the folder of this path; or why not, and what was copied by then stays.
pub record CopyStep {T : Type 0} (Of : List ℕ → Type 0) (from : List ℕ) (before after : Places) (result : Result T OldCopyFault) : Type 0 where
  pub same : after.site.told ≡ before.site.told
  pub rest : OnOk result (IfSome after.folder.told AtRest)
  pub copied : OnOk result (GoesBy from before after (Copies Of))
  pub refused : IfErr result (λ fault. GoesBy from before after (λ old s t. StepFails Of old s.disk.published fault))
  pub reads : Goes before.folder.told after.folder.told (ReadsCopies Of (told_in from before.site.told))
  pub any_moment : Goes before.folder.told after.folder.told (PassesCopies Of (told_in from before.site.told))
  pub folder : RisesExactlyIf before.folder.faults after.folder.faults (folder_failed result)
  pub site : RisesExactlyIf before.site.faults after.site.faults (site_failed result)

-- ---- the whole

-- some files but `format` were copied, or all were
abbrev pub IsBeingCopied : ℕ → (old files image : Files) → Type 0
IsBeingCopied count old files image = Between (IsCopiedFirst count) (Some old) files image ⊎ HasCopies (IsCopied count) old files image

-- a stop at each moment leaves what one at the first might have left, or files on the way
abbrev pub PassesWay : ℕ → (old : Files) → Folder → Folder → Type 0
PassesWay count old s t = Passes (λ image. IsImage s.disk image ⊎ IsBeingCopied count old s.disk.published image) s t

-- reads give files on the way
abbrev pub ReadsWay : ℕ → (old : Files) → Folder → Folder → Type 0
ReadsWay count old s t = IsBeingCopied count old s.disk.published t.disk.published

-- All files are copied, where there are so many runs; or why not.
pub record CopiesAll {T : Type 0} (count : ℕ) (from : List ℕ) (before after : Places) (result : Result T OldCopyFault) : Type 0 where
  pub step : CopyStep (IsCopied count) from before after result
  pub reads : GoesBy from before after (ReadsWay count)
  pub way : GoesBy from before after (PassesWay count)

-- The other folder is one of the original tool whose number that comes next is this one.
pub record IsOldFolder (count : ℕ) (old : Files) : Type 0 where
  pub is : IsOld old
  pub next : next_of old ≡ Some count

-- Files on the way, where the other folder is of these files of the system, and of the original tool. Where those are not told,
-- only files of names differ that are copied.
abbrev pub IsOnWay : (from : List ℕ) → Option Files → (files image : Files) → Type 0
IsOnWay from None files image = (count : ℕ) × Between (IsCopied count) None files image
IsOnWay from (Some told) files image = (count : ℕ) × IsOldFolder count (folder_in from told) × IsBeingCopied count (folder_in from told) files image

-- a stop at each moment leaves what one at the first might have left, or files on the way
abbrev pub PassesTaking : (from : List ℕ) → Option Files → Folder → Folder → Type 0
PassesTaking from told s t = Passes (λ image. IsImage s.disk image ⊎ IsOnWay from told s.disk.published image) s t

-- The folder here was none of the two tools, and held no file but those of the other one, with the same bytes. It is a folder of
-- the original tool now: its files are those of the other one, as many runs as that tells.
pub record TakesFiles (old : Files) (s t : Folder) : Type 0 where
  pub count : ℕ
  pub is_old : IsOldFolder count old
  pub free : s.disk.published format_name ≡ None
  pub alone : (name : List ℕ) → IsShortText name → IsSome (s.disk.published name) → IsCopiedFirst count name
  pub rest : AtRest t
  pub copied : Copies (IsCopied count) old s t

-- a file of a text's name stands here that is none of the other folder: its name is no copied one, or its bytes are others
pub record HasOtherFiles (old files : Files) : Type 0 where
  pub count : ℕ
  pub is_old : IsOldFolder count old
  pub name : List ℕ
  pub short : IsShortText name
  pub there : IsSome (files name)
  pub other : IsCopiedFirst count name → files name ≢ old name

-- reads give the files that they gave
abbrev pub SameReads : Folder → Folder → Type 0
SameReads s t = t.disk.published ≡ s.disk.published

-- the same, or files on the way
abbrev pub ReadsTaking : (old : Files) → Folder → Folder → Type 0
ReadsTaking old s t = SameReads s t ⊎ ((count : ℕ) × IsOldFolder count old × ReadsWay count old s t)

-- the folder is none of the two tools
abbrev pub LacksFormat : Folder → Type 0
LacksFormat s = s.disk.published format_name ≡ None

-- Why the files were not copied, and what reads give then. A cause that comes later here is told only where no earlier one is
-- there.
abbrev pub CopyFails : (old : Files) → OldCopyFault → Folder → Folder → Type 0
CopyFails old Here s t = HasFormat s.disk.published × SameReads s t
CopyFails old OldHere s t = IsOld s.disk.published × SameReads s t
CopyFails old StrangeHere s t = HasStrangeFormat s.disk.published × SameReads s t
CopyFails old NoStore s t = LacksFormat s × (old format_name ≡ None) × SameReads s t
CopyFails old NotOld s t = LacksFormat s × HasFormat old × SameReads s t
CopyFails old UnknownFormat s t = LacksFormat s × HasStrangeFormat old × SameReads s t
CopyFails old BadCount s t = LacksFormat s × LacksCount old × SameReads s t
CopyFails old OtherFiles s t = LacksFormat s × HasOtherFiles old s.disk.published × ReadsTaking old s t
CopyFails old Site s t = LacksFormat s × ReadsTaking old s t
CopyFails old (Shelf call) s t = ReadsTaking old s t
CopyFails old NoMemory s t = ReadsTaking old s t

-- The old files of the folder of this path are copied; or why they are not. No file of that folder changes.
pub record CopiesOld (from : List ℕ) (before after : Places) (result : Result (Unit {0}) OldCopyFault) : Type 0 where
  pub same : after.site.told ≡ before.site.told
  pub copied : OnOk result (GoesBy from before after TakesFiles)
  pub refused : IfErr result (λ fault. GoesBy from before after (λ old. CopyFails old fault))
  pub any_moment : Goes before.folder.told after.folder.told (PassesTaking from before.site.told)
  pub folder : RisesExactlyIf before.folder.faults after.folder.faults (folder_failed result)
  pub site : RisesExactlyIf before.site.faults after.site.faults (site_failed result)
