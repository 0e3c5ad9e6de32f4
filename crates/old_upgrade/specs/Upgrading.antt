-- What an upgrade makes of a folder of the original tool, and why it refuses (docs/FORMATS.md, "Folders of another program").
use Rattle.std.specs.Prelude.{◌≡◌, ◌⊎◌, ℕ, ◌<◌, Bool, true, false, Option, Some, None, IsSomeAnd, List, [], length, slice_get, Result, Ok, Err}
use Rattle.edge_io.specs.Disk.{Files, Folder, IsImage}
use Rattle.edge_io.specs.Moments.{Passes}
use Rattle.edge_io.specs.Steps.{Settled}
use Rattle.packet_codec.specs.Packets.{ArePacketsOf}
use Rattle.packet_codec.specs.declared.event.Event.{Event}
use Rattle.run_shelf.specs.Images.{AtRest}
use Rattle.run_shelf.specs.Repository.{full_name, format_name, HasFormat}
use Rattle.run_shelf.specs.Sides.{cache_file_name}
use Rattle.run_shelf.specs.declared.faults.ShelfCall.{ShelfCall}
use Rattle.run_shelf.specs.declared.faults.ShelfCall.TheVariants.{Names, Length, ReadAt, StartDraft, Append, SyncDraft, Publish, SyncFolder}
use Rattle.run_shelf.specs.declared.cache_file.CacheFile.TheVariants as side
use Rattle.old_folder.specs.Converting.{StaysOld, IsUpgraded}
use Rattle.old_folder.specs.Looking.{HasStrangeFormat, LacksCount}
use Rattle.old_folder.specs.Olds.{failing_name, IsOldWith}
use Rattle.old_runs.specs.Files.{IsOldFile, IsDamaged, AreFailingIn}
use Rattle.old_upgrade.specs.declared.faults.UpgradeFault.{UpgradeFault}
use Rattle.old_upgrade.specs.declared.faults.UpgradeFault.TheVariants.{NoStore, NotOld, UnknownFormat, BadCount, BadRun, BadFailing, Shelf, NoMemory}

-- ---- what a file becomes

-- the events that the old bytes tell, each as its packet in shortest spelling
pub record IsConversion (old bytes : List ℕ) : Type 0 where
  pub whole : IsDamaged old → ⊥
  pub events : List Event
  pub tells : IsOldFile old events
  pub are : ArePacketsOf events bytes

-- the bytes of the run that a file becomes: none where there is no file
abbrev pub IsConvertedFrom : Option (List ℕ) → List ℕ → Type 0
IsConvertedFrom None bytes = bytes ≡ []
IsConvertedFrom (Some old) bytes = IsConversion old bytes

-- the ids that failed last, as the file tells them: none where there is no file
abbrev pub AreFailing : Option (List ℕ) → List (List ℕ) → Type 0
AreFailing None ids = ids ≡ []
AreFailing (Some old) ids = (IsDamaged old → ⊥) × AreFailingIn old ids

-- so each of the runs is that of the file of its number
abbrev pub AreConverted : Files → List (List ℕ) → Type 0
AreConverted files runs = (number : ℕ) (bytes : List ℕ) → slice_get runs number ≡ Some bytes → IsConvertedFrom (files (full_name number)) bytes

-- the repository of the folder's runs, and of what failed last in it
pub record BecomesRepository (count : ℕ) (files image : Files) : Type 0 where
  pub runs : List (List ℕ)
  pub counted : length runs ≡ count
  pub are : AreConverted files runs
  pub ids : List (List ℕ)
  pub failing : AreFailing (files failing_name) ids
  pub upgraded : IsUpgraded runs ids files image

-- the same of as many runs as there were
abbrev pub BecomesOne : Files → Files → Type 0
BecomesOne files image = (count : ℕ) × BecomesRepository count files image

-- ---- the whole

-- the folder is the repository of its runs, so many, and each later stop leaves it so
pub record Upgrades (count : ℕ) (s t : Folder) : Type 0 where
  pub rest : AtRest t
  pub is : BecomesRepository count s.disk.published t.disk.published

-- still a folder of the original tool, or the repository of its runs
abbrev pub IsEither : Files → Files → Type 0
IsEither files image = StaysOld files image ⊎ BecomesOne files image

-- a stop at each moment leaves what one at the first might have left, or a folder that both tools open, or the repository
abbrev pub PassesUpgrade : Folder → Folder → Type 0
PassesUpgrade s t = Passes (λ image. IsImage s.disk image ⊎ IsEither s.disk.published image) s t

-- ---- why it refuses

-- this is the least number whose file is damaged
pub record HasBadRun (number : ℕ) (files : Files) : Type 0 where
  pub count : ℕ
  pub old : IsOldWith count files
  pub counted : number < count
  pub damaged : IsSomeAnd (files (full_name number)) IsDamaged
  pub before : (other : ℕ) (bytes : List ℕ) → other < number → files (full_name other) ≡ Some bytes → IsDamaged bytes → ⊥

-- no run is damaged, and what failed last is
pub record HasBadFailing (files : Files) : Type 0 where
  pub count : ℕ
  pub old : IsOldWith count files
  pub runs : (number : ℕ) (bytes : List ℕ) → number < count → files (full_name number) ≡ Some bytes → IsDamaged bytes → ⊥
  pub damaged : IsSomeAnd (files failing_name) IsDamaged

-- reads give the files as they were, or still a folder of the original tool
abbrev pub StaysOrNot : Folder → Folder → Type 0
StaysOrNot s t = (t.disk.published ≡ s.disk.published) ⊎ StaysOld s.disk.published t.disk.published

-- the same, or the repository, whose format was put and not brought to the disk for sure
abbrev pub KeepsOrUpgrades : Folder → Folder → Type 0
KeepsOrUpgrades s t = StaysOrNot s t ⊎ BecomesOne s.disk.published t.disk.published

-- This call of the folder failed. Only where a publish did, or the barrier behind it, may the folder be the repository.
abbrev pub UpgradeFailsAt : ShelfCall → Folder → Folder → Type 0
UpgradeFailsAt Names s t = StaysOrNot s t
UpgradeFailsAt Length s t = StaysOrNot s t
UpgradeFailsAt ReadAt s t = StaysOrNot s t
UpgradeFailsAt StartDraft s t = StaysOrNot s t
UpgradeFailsAt Append s t = StaysOrNot s t
UpgradeFailsAt SyncDraft s t = StaysOrNot s t
UpgradeFailsAt Publish s t = KeepsOrUpgrades s t
UpgradeFailsAt SyncFolder s t = KeepsOrUpgrades s t

-- why the folder was not upgraded, and what it is then
abbrev pub UpgradeFails : UpgradeFault → Folder → Folder → Type 0
UpgradeFails NoStore s t = (s.disk.published format_name ≡ None) × Settled s t
UpgradeFails NotOld s t = HasFormat s.disk.published × Settled s t
UpgradeFails UnknownFormat s t = HasStrangeFormat s.disk.published × Settled s t
UpgradeFails BadCount s t = LacksCount s.disk.published × Settled s t
UpgradeFails (BadRun number) s t = HasBadRun number s.disk.published × StaysOld s.disk.published t.disk.published
UpgradeFails BadFailing s t = HasBadFailing s.disk.published × StaysOld s.disk.published t.disk.published
UpgradeFails (Shelf call) s t = UpgradeFailsAt call s t
UpgradeFails NoMemory s t = StaysOrNot s t

-- a call of the folder failed
abbrev pub upgrade_failed : {T : Type 0} → Result T UpgradeFault → Bool
upgrade_failed (Ok done) = false
upgrade_failed (Err NoStore) = false
upgrade_failed (Err NotOld) = false
upgrade_failed (Err UnknownFormat) = false
upgrade_failed (Err BadCount) = false
upgrade_failed (Err (BadRun number)) = false
upgrade_failed (Err BadFailing) = false
upgrade_failed (Err (Shelf call)) = true
upgrade_failed (Err NoMemory) = false

-- ---- caches

-- neither cache is there
pub record LacksCaches (files : Files) : Type 0 where
  pub failing : files (cache_file_name side.Failing) ≡ None
  pub times : files (cache_file_name side.Times) ≡ None
