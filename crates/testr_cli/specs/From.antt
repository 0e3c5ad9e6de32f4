-- `testr upgrade --from=DIR`: the old files of another folder are copied, and the folder is upgraded then (docs/COMMANDS.md,
-- "Words").
use Rattle.std.specs.Prelude.{◌≡◌, ◌⊎◌, ◌&&◌, nat_eq, nat_lt, ℕ, Option, Some, None, IsSome, IsSomeAnd, List, [], ◌∷◌, ◌++◌, length, drop, codes, Ok, Err, if◌then◌else◌}
use Rattle.std.specs.Io.KnownBytes.{Appends}
use Rattle.std.specs.List.{starts_with}
use Rattle.std.specs.Str.{bytes_eq}
use Rattle.edge_io.specs.Bytes.{AppendsPrefix}
use Rattle.edge_io.specs.Causes.{Rose}
use Rattle.edge_io.specs.Disk.{Files, Folder}
use Rattle.edge_io.specs.Seen.{Seen}
use Rattle.run_shelf.specs.Repository.{format_name}
use Rattle.old_copies.specs.Copying.{folder_in, IsCopiedFirst, IsOldFolder, places, CopiesOld}
use Rattle.old_copies.specs.declared.faults.OldCopyFault.{OldCopyFault}
use Rattle.old_copies.specs.declared.faults.OldCopyFault.TheVariants.{Here, OldHere, StrangeHere, NoStore, NotOld, UnknownFormat, BadCount, OtherFiles, Site, Shelf, NoMemory}
use Rattle.command_steps.specs.Outside.{Outside}
use Rattle.testr_commands.specs.Elsewhere.{TestrPromises}
use Rattle.testr_words.specs.declared.command.Face.{Face}

-- ---- words

-- the word of the command
abbrev pub upgrade_word : List ℕ
upgrade_word = codes "upgrade"

-- the option that names the other folder
abbrev pub from_word : List ℕ
from_word = codes "--from"

-- what stands behind `--from=` in a word that begins so
abbrev pub behind_from : List ℕ → Option (List ℕ)
behind_from word = if starts_with nat_eq word (codes "--from=") then Some (drop 7 word) else None

-- the path of a folder, which is not empty
abbrev pub path_of : Option (List ℕ) → Option (List ℕ)
path_of None = None
path_of (Some path) = if nat_lt 0 (length path) then Some path else None

-- the folder that the option tells with its value in one word
abbrev pub of_one_word : (verb word : List ℕ) → Option (List ℕ)
of_one_word verb word = if bytes_eq verb upgrade_word then path_of (behind_from word) else None

-- the folder that the option tells with its value in a word of its own
abbrev pub of_two_words : (verb option word : List ℕ) → Option (List ℕ)
of_two_words verb option word = if bytes_eq verb upgrade_word && bytes_eq option from_word then path_of (Some word) else None

-- The folder that the words behind the name of a face tell to upgrade from: `upgrade`, and then the option. Other words tell
-- none.
abbrev pub from_in : List (List ℕ) → Option (List ℕ)
from_in (verb ∷ word ∷ []) = of_one_word verb word
from_in (verb ∷ option ∷ word ∷ []) = of_two_words verb option word
from_in words = None

-- ---- why the files were not copied

-- the exit status where the files were not copied: 3 by what a folder holds, 4 where a call failed, 5 where memory was
-- wanting
abbrev pub copy_exit_status : OldCopyFault → ℕ
copy_exit_status Site = 4
copy_exit_status (Shelf call) = 4
copy_exit_status NoMemory = 5
copy_exit_status fault = 3

-- the line where the files were not copied, which names the other folder where the cause is in that
abbrev pub copy_text : List ℕ → OldCopyFault → List ℕ
copy_text from Here = codes "testr: a repository is already here\n"
copy_text from OldHere = codes "testr: an old folder is already here; testr upgrade takes it over\n"
copy_text from StrangeHere = codes "testr: unknown repository format\n"
copy_text from NoStore = codes "testr: no repository in " ++ from ++ codes "\n"
copy_text from NotOld = codes "testr: nothing to upgrade in " ++ from ++ codes "\n"
copy_text from UnknownFormat = codes "testr: unknown repository format in " ++ from ++ codes "\n"
copy_text from BadCount = codes "testr: next-stream is no number in " ++ from ++ codes "\n"
copy_text from OtherFiles = codes "testr: other files are in .testrepository\n"
copy_text from Site = codes "testr: fault reading a file\n"
copy_text from (Shelf call) = codes "testr: fault of the repository folder\n"
copy_text from NoMemory = codes "testr: out of memory\n"

-- the line went to the errors' sink: whole, or in part where that sink failed
abbrev pub TellsCopyFault : List ℕ → OldCopyFault → Seen (List ℕ) → Seen (List ℕ) → Type 0
TellsCopyFault from fault before after = AppendsPrefix before.told after.told (copy_text from fault) × (Appends before.told after.told (copy_text from fault) ⊎ Rose before.faults after.faults)

-- ---- where it is not refused

-- The other folder is one of the original tool. The one here is none of the two tools, and holds no file but those of the other one.
pub record MayCopy (old files : Files) : Type 0 where
  pub count : ℕ
  pub is_old : IsOldFolder count old
  pub free : files format_name ≡ None
  pub alone : (name : List ℕ) → IsSome (files name) → IsCopiedFirst count name × (files name ≡ old name)

-- both folders are told, and so
abbrev pub CanCopy : (from : List ℕ) → Option Files → Option Folder → Type 0
CanCopy from site folder = IsSomeAnd site (λ files. IsSomeAnd folder (λ s. MayCopy (folder_in from files) s.disk.published))

-- ---- what is promised

-- The files were copied, and nothing else was touched. From there on the call promises what `upgrade` alone does; it goes by no
-- path of a project.
pub record GoesFrom (face : Face) (from : List ℕ) (before after : Outside) (answer : ℕ) : Type 0 where
  pub ready : Outside
  pub copied : CopiesOld from (places before.folder before.site) (places ready.folder ready.site) (Ok tt)
  pub rest : ready ≡ record before { folder = ready.folder; site = ready.site }
  pub path : List ℕ
  pub upgraded : TestrPromises path face (upgrade_word ∷ []) ready after answer

-- The files were not copied, or not all. Nothing was touched but the folder, the files that are read and the errors' sink.
pub record StopsFrom (from : List ℕ) (before after : Outside) (answer : ℕ) : Type 0 where
  pub fault : OldCopyFault
  pub copied : CopiesOld from (places before.folder before.site) (places after.folder after.site) (Err fault)
  pub rest : after ≡ record before { folder = after.folder; site = after.site; errors = after.errors }
  pub told : TellsCopyFault from fault before.errors after.errors
  pub code : answer ≡ copy_exit_status fault
  -- it does not stop without a cause
  pub completeness : CanCopy from before.site.told before.folder.told → (Rose before.folder.faults after.folder.faults → ⊥) → (Rose before.site.faults after.site.faults → ⊥) → answer ≡ 5

-- the files were copied and the folder is upgraded then, or they were not and it is told why
abbrev pub UpgradesFrom : Face → List ℕ → Outside → Outside → ℕ → Type 0
UpgradesFrom face from before after answer = GoesFrom face from before after answer ⊎ StopsFrom from before after answer

-- what a face promises for the words behind its name, which tell this folder to upgrade from, or none
abbrev pub PromisesFrom : Option (List ℕ) → List ℕ → Face → List (List ℕ) → Outside → Outside → ℕ → Type 0
PromisesFrom None folder face behind before after answer = TestrPromises folder face behind before after answer
PromisesFrom (Some from) folder face behind before after answer = UpgradesFrom face from before after answer
