-- What a look at a folder of the original tool finds, in which nothing changes.
use Rattle.std.specs.Prelude.{◌≡◌, ◌⊎◌, ⊤, ℕ, ◌+◌, ◌<◌, ◌≤◌, Bool, true, false, ◌||◌, if◌then◌else◌, Option, Some, None, List, length, take, Contains, Result, Ok, Err}
use Rattle.std.specs.Str.{bytes_eq}
use Rattle.edge_io.specs.Disk.{Files, Folder}
use Rattle.edge_io.specs.Steps.{Settled}
use Rattle.run_shelf.specs.Adoption.{IsOld, old_format_bytes}
use Rattle.run_shelf.specs.Looking.{IsLook}
use Rattle.run_shelf.specs.Names.{SpellsRun}
use Rattle.run_shelf.specs.Outcomes.{FailsAt}
use Rattle.run_shelf.specs.Repository.{format_name, format_bytes, based_format_bytes, HasFormat, HasOtherFormat, most_runs}
use Rattle.old_folder.specs.Olds.{most_short, next_of, IsOldWith}
use Rattle.old_folder.specs.declared.faults.OldFault.{OldFault}
use Rattle.old_folder.specs.declared.faults.OldFault.TheVariants.{NoStore, NotOld, UnknownFormat, BadCount, Shelf, NoMemory}
use Rattle.old_folder.specs.declared.folder_survey.Layout.{Layout}
use Rattle.old_folder.specs.declared.folder_survey.Layout.TheVariants.{Old, Ours, Other}
use Rattle.old_folder.specs.declared.short_file.Short.{Short}
use Rattle.old_folder.specs.declared.short_file.Short.TheVariants.{Absent, Long, Whole}

-- ---- a short file

-- what a read of the file found: none, or that it is long, or all its bytes at the front of the buffer
abbrev pub IsShortRead : Option (List ℕ) → List ℕ → Short → Type 0
IsShortRead file buf Absent = file ≡ None
IsShortRead file buf Long = (bytes : List ℕ) × (file ≡ Some bytes) × (most_short < length bytes)
IsShortRead file buf (Whole count) = (file ≡ Some (take count buf)) × (length (take count buf) ≤ most_short)

-- how many bytes were read
abbrev pub bytes_read : Short → ℕ
bytes_read Absent = 0
bytes_read Long = 0
bytes_read (Whole count) = count

-- ---- the format

-- whose format the bytes are
abbrev pub layout_of : List ℕ → Layout
layout_of bytes =
    if bytes_eq bytes old_format_bytes then Old
    else if bytes_eq bytes format_bytes || bytes_eq bytes based_format_bytes then Ours
    else Other

-- ---- the names

-- a name raises how many runs there are, where it is a greater one's
pub record Raises (name : List ℕ) (before after : ℕ) : Type 0 where
  pub most : before ≤ after
  pub few : before ≤ most_runs → after ≤ most_runs
  pub within : (number : ℕ) (partial : Bool) → SpellsRun name number partial → number < after
  pub least : (after ≡ before) ⊎ ((number : ℕ) × (partial : Bool) × SpellsRun name number partial × (after ≡ number + 1))

-- how many runs there are by a list of names, as `IsOldCount` says it of files
pub record NamesCount (names : List (List ℕ)) (next count : ℕ) : Type 0 where
  pub most : next ≤ count
  pub few : count ≤ most_runs
  pub within : (number : ℕ) (partial : Bool) (name : List ℕ) → Contains names name → SpellsRun name number partial → number < count
  pub least : (count ≡ next) ⊎ ((number : ℕ) × (partial : Bool) × (name : List ℕ) × Contains names name × SpellsRun name number partial × (count ≡ number + 1))

-- ---- why it is none

-- `format` has other bytes than those of the original tool and of this one
pub record HasStrangeFormat (files : Files) : Type 0 where
  pub other : HasOtherFormat files
  pub not_old : IsOld files → ⊥

-- `next-stream` is not there, or is no number
pub record LacksCount (files : Files) : Type 0 where
  pub old : IsOld files
  pub none : next_of files ≡ None

-- why the folder is none of the original tool
abbrev pub OldLookFails : OldFault → Folder → Folder → Type 0
OldLookFails NoStore s t = s.disk.published format_name ≡ None
OldLookFails NotOld s t = HasFormat s.disk.published
OldLookFails UnknownFormat s t = HasStrangeFormat s.disk.published
OldLookFails BadCount s t = LacksCount s.disk.published
OldLookFails (Shelf call) s t = IsLook call
OldLookFails NoMemory s t = ⊤

-- why its `format` is not that of the original tool
abbrev pub LayoutFails : OldFault → Folder → Folder → Type 0
LayoutFails NoStore s t = s.disk.published format_name ≡ None
LayoutFails NotOld s t = HasFormat s.disk.published
LayoutFails UnknownFormat s t = HasStrangeFormat s.disk.published
LayoutFails BadCount s t = ⊥
LayoutFails (Shelf call) s t = IsLook call
LayoutFails NoMemory s t = ⊥

-- a folder of the original tool with so many runs, all of it on the disk for good
pub record SurveysOld (count : ℕ) (s t : Folder) : Type 0 where
  pub settled : Settled s t
  pub is : IsOldWith count s.disk.published

-- the same of a folder that is none, or of which a call failed
abbrev pub OldSurveyFails : OldFault → Folder → Folder → Type 0
OldSurveyFails NoStore s t = (s.disk.published format_name ≡ None) × Settled s t
OldSurveyFails NotOld s t = HasFormat s.disk.published × Settled s t
OldSurveyFails UnknownFormat s t = HasStrangeFormat s.disk.published × Settled s t
OldSurveyFails BadCount s t = LacksCount s.disk.published × Settled s t
OldSurveyFails (Shelf call) s t = FailsAt call s t
OldSurveyFails NoMemory s t = Settled s t

-- a call of the folder failed in the look
abbrev pub old_failed : {T : Type 0} → Result T OldFault → Bool
old_failed (Ok count) = false
old_failed (Err NoStore) = false
old_failed (Err NotOld) = false
old_failed (Err UnknownFormat) = false
old_failed (Err BadCount) = false
old_failed (Err (Shelf call)) = true
old_failed (Err NoMemory) = false
