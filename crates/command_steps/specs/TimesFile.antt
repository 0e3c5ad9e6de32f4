-- A file of times, which stand in place of those of the repository (docs/FORMATS.md, "Files of times").
use Rattle.std.specs.Prelude.{◌≡◌, ⊤, ℕ, ◌≤◌, ◌<◌, Bool, true, false, None, Some, IfSome, IfOk, IfErr, IsSomeAnd, List, length, Result, Ok, Err, Vec}
use Rattle.std.specs.declared.alloc.Global.{Global}
use Rattle.std.specs.FinMap.{FinMap}
use Rattle.edge_io.specs.Causes.{RisesExactlyIf}
use Rattle.edge_io.specs.Disk.{Files}
use Rattle.edge_io.specs.Seen.{Seen}
use Rattle.outcome_fold.specs.Order.{text_cmp}
use Rattle.run_ledger.specs.Caches.{IsTimesCache}
use Rattle.command_steps.specs.declared.times_file.TheConstants.{MOST_TIMES}
use Rattle.command_steps.specs.declared.times_file.TimesRefusal.{TimesRefusal}
use Rattle.command_steps.specs.declared.times_file.TimesRefusal.TheVariants.{Site, TooLong, Absent, NotTimes, NoMemory}

-- the file of this name is there with these bytes, which are no more than it may have
pub record HasTimesFile (files : Files) (name bytes : List ℕ) : Type 0 where
  pub there : files name ≡ Some bytes
  pub short : length bytes ≤ MOST_TIMES

-- it is there, is not too long, and holds these times in the form of their cache, of however many runs
pub record IsTimesFile (name : List ℕ) (times : FinMap text_cmp ℕ) (files : Files) : Type 0 where
  pub bytes : List ℕ
  pub has : HasTimesFile files name bytes
  pub covers : ℕ
  pub form : IsTimesCache bytes covers times

-- it is there, is not too long, and has another form
pub record HasNoTimes (name : List ℕ) (files : Files) : Type 0 where
  pub bytes : List ℕ
  pub has : HasTimesFile files name bytes
  pub other : (covers : ℕ) (times : FinMap text_cmp ℕ) → IsTimesCache bytes covers times → ⊥

-- it is there, and has more bytes
abbrev pub HasTooManyTimes : List ℕ → Files → Type 0
HasTooManyTimes name files = IsSomeAnd (files name) (λ bytes. MOST_TIMES < length bytes)

-- what is so of the files where the file of this name is refused so
abbrev pub HasTimesCause : List ℕ → TimesRefusal → Files → Type 0
HasTimesCause name Site files = ⊤
HasTimesCause name (TooLong given) files = HasTooManyTimes name files
HasTimesCause name (Absent given) files = files name ≡ None
HasTimesCause name (NotTimes given) files = HasNoTimes name files
HasTimesCause name NoMemory files = ⊤

-- a refusal that names a file names this one
abbrev pub NamesTimes : List ℕ → TimesRefusal → Type 0
NamesTimes name Site = ⊤
NamesTimes name (TooLong given) = given.now ≡ name
NamesTimes name (Absent given) = given.now ≡ name
NamesTimes name (NotTimes given) = given.now ≡ name
NamesTimes name NoMemory = ⊤

-- whether a read failed
abbrev pub times_failed : {T : Type 0} → Result T TimesRefusal → Bool
times_failed (Ok value) = false
times_failed (Err Site) = true
times_failed (Err (TooLong given)) = false
times_failed (Err (Absent given)) = false
times_failed (Err (NotTimes given)) = false
times_failed (Err NoMemory) = false

-- it is refused before its form is looked at
abbrev pub IsTimesFileUnread : TimesRefusal → Type 0
IsTimesFileUnread Site = ⊤
IsTimesFileUnread (TooLong given) = ⊤
IsTimesFileUnread (Absent given) = ⊤
IsTimesFileUnread (NotTimes given) = ⊥
IsTimesFileUnread NoMemory = ⊤

-- The reading of the bytes of the file of this name. What it says of files holds where they are told.
pub record ReadsBytes (name : List ℕ) (before after : Seen Files) (result : Result (Vec ℕ Global) TimesRefusal) : Type 0 where
  pub bytes : IfOk result (λ bytes. IfSome before.told (λ files. HasTimesFile files name bytes.items))
  pub refused : IfErr result (λ refusal. IfSome before.told (HasTimesCause name refusal))
  pub unread : IfErr result IsTimesFileUnread
  pub named : IfErr result (NamesTimes name)
  pub same : after.told ≡ before.told
  pub count : RisesExactlyIf before.faults after.faults (times_failed result)

-- The step that reads the times of the file of this name. What it says of files holds where they are told.
pub record ReadsTimes (name : List ℕ) (before after : Seen Files) (result : Result (FinMap text_cmp ℕ) TimesRefusal) : Type 0 where
  pub times : IfOk result (λ times. IfSome before.told (IsTimesFile name times))
  pub refused : IfErr result (λ refusal. IfSome before.told (HasTimesCause name refusal))
  pub named : IfErr result (NamesTimes name)
  pub same : after.told ≡ before.told
  pub count : RisesExactlyIf before.faults after.faults (times_failed result)
