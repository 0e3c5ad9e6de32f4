-- The ids that a file lists (docs/FORMATS.md, "Lists of ids").
use Rattle.std.specs.Prelude.{◌≡◌, ⊤, ℕ, ◌≤◌, Bool, true, false, None, IfSome, IfOk, IfErr, List, length, Result, Ok, Err, Vec}
use Rattle.std.specs.declared.alloc.Global.{Global}
use Rattle.edge_io.specs.Causes.{RisesExactlyIf}
use Rattle.edge_io.specs.Disk.{Files}
use Rattle.edge_io.specs.Seen.{Seen}
use Rattle.suite_plan.specs.Texts.{most_text, HasText, HasTooMuch}
use Rattle.suite_plan.specs.declared.load_list.ListRefusal.{ListRefusal}
use Rattle.suite_plan.specs.declared.load_list.ListRefusal.TheVariants.{Site, TooLong, Absent, NotId, NoMemory}
use Rattle.testr_conf.specs.ListedIds.{ids_in}
use Rattle.testr_conf.specs.declared.ids.IdsFault.TheVariants.{NotText}

-- the file of this name is there, not too long, and lists these ids
pub record IsLoadList (name : List ℕ) (ids : List (List ℕ)) (files : Files) : Type 0 where
  pub text : List ℕ
  pub has : HasText files name text
  pub says : ids_in text ≡ Ok ids

-- it is there and not too long, and this line is its first that is no text
pub record HasNoId (name : List ℕ) (number : ℕ) (files : Files) : Type 0 where
  pub text : List ℕ
  pub has : HasText files name text
  pub says : ids_in text ≡ Err (NotText number)

-- what is so of the files where the list of this name is refused so
abbrev pub HasListCause : List ℕ → ListRefusal → Files → Type 0
HasListCause name Site files = ⊤
HasListCause name (TooLong given) files = HasTooMuch files name
HasListCause name (Absent given) files = files name ≡ None
HasListCause name (NotId given number) files = HasNoId name number files
HasListCause name NoMemory files = ⊤

-- a refusal that names a file names this one
abbrev pub NamesList : List ℕ → ListRefusal → Type 0
NamesList name Site = ⊤
NamesList name (TooLong given) = given.now ≡ name
NamesList name (Absent given) = given.now ≡ name
NamesList name (NotId given number) = given.now ≡ name
NamesList name NoMemory = ⊤

-- whether a read failed
abbrev pub list_failed : {T : Type 0} → Result T ListRefusal → Bool
list_failed (Ok value) = false
list_failed (Err Site) = true
list_failed (Err (TooLong given)) = false
list_failed (Err (Absent given)) = false
list_failed (Err (NotId given number)) = false
list_failed (Err NoMemory) = false

-- it is refused before any line is seen
abbrev pub IsUnread : ListRefusal → Type 0
IsUnread Site = ⊤
IsUnread (TooLong given) = ⊤
IsUnread (Absent given) = ⊤
IsUnread (NotId given number) = ⊥
IsUnread NoMemory = ⊤

-- The reading of the bytes of the list of this name. What it says of files holds where they are told.
pub record ReadsList (name : List ℕ) (before after : Seen Files) (result : Result (Vec ℕ Global) ListRefusal) : Type 0 where
  pub text : IfOk result (λ text. IfSome before.told (λ files. HasText files name text.items))
  pub short : IfOk result (λ text. length text.items ≤ most_text)
  pub refused : IfErr result (λ refusal. IfSome before.told (HasListCause name refusal))
  pub unread : IfErr result IsUnread
  pub named : IfErr result (NamesList name)
  pub same : after.told ≡ before.told
  pub count : RisesExactlyIf before.faults after.faults (list_failed result)

-- The step that reads the list of this name. What it says of files holds where they are told.
pub record ReadsLoadList (name : List ℕ) (before after : Seen Files) (result : Result (List (List ℕ)) ListRefusal) : Type 0 where
  pub ids : IfOk result (λ ids. IfSome before.told (IsLoadList name ids))
  pub refused : IfErr result (λ refusal. IfSome before.told (HasListCause name refusal))
  pub named : IfErr result (NamesList name)
  pub same : after.told ≡ before.told
  pub count : RisesExactlyIf before.faults after.faults (list_failed result)
