-- How many workers a machine's table of processors asks for (docs/FORMATS.md, "The processor table").
use Rattle.std.specs.Prelude.{◌≡◌, ⊤, ℕ, ◌≤◌, Bool, true, false, nat_eq, Option, None, Some, IfSome, IfOk, IfErr, List, length, min, max, Result, Ok, Err, codes}
use Rattle.std.specs.List.{filter, starts_with}
use Rattle.bstr.specs.Text.{lines_of}
use Rattle.edge_io.specs.Causes.{RisesExactlyIf}
use Rattle.edge_io.specs.Disk.{Files}
use Rattle.edge_io.specs.Seen.{Seen}
use Rattle.edge_io.specs.declared.whole_file.ReadFault.{ReadFault}
use Rattle.edge_io.specs.declared.whole_file.ReadFault.TheVariants as read
use Rattle.suite_plan.specs.Texts.{most_text, HasTooMuch}
use Rattle.suite_plan.specs.declared.worker_shares.TheConstants.{MOST_WORKERS}
use Rattle.suite_plan.specs.declared.processors.TableRefusal.{TableRefusal}
use Rattle.suite_plan.specs.declared.processors.TableRefusal.TheVariants.{Site, TooLong, NoMemory}

-- the name of the system's table of processors
abbrev pub table_name : List ℕ
table_name = codes "/proc/cpuinfo"

-- the line begins the entry of a processor
abbrev pub is_processor : List ℕ → Bool
is_processor line = starts_with nat_eq line (codes "processor")

-- how many lines of a table begin a processor
abbrev pub processors_in : List ℕ → ℕ
processors_in text = length (filter is_processor (lines_of text))

-- a number of workers, at least 1 and at most so many as a run may have
abbrev pub clamp_workers : ℕ → ℕ
clamp_workers number = max 1 (min number MOST_WORKERS)

-- a table that is not there counts as an empty one
abbrev pub workers_for : Option (List ℕ) → ℕ
workers_for None = 1
workers_for (Some text) = clamp_workers (processors_in text)

-- the table is not too long where it is there, and this is its number
pub record GivesProcessors (number : ℕ) (files : Files) : Type 0 where
  pub short : IfSome (files table_name) (λ text. length text ≤ most_text)
  pub is : number ≡ workers_for (files table_name)

-- what is so of the files where the table is refused so
abbrev pub HasTableCause : TableRefusal → Files → Type 0
HasTableCause Site files = ⊤
HasTableCause TooLong files = HasTooMuch files table_name
HasTableCause NoMemory files = ⊤

-- whether a read failed
abbrev pub table_failed : {T : Type 0} → Result T TableRefusal → Bool
table_failed (Ok value) = false
table_failed (Err Site) = true
table_failed (Err TooLong) = false
table_failed (Err NoMemory) = false

-- the refusal of a table that was not read whole
abbrev pub unread_table : ReadFault → TableRefusal
unread_table read.Failed = Site
unread_table read.TooLong = TooLong
unread_table read.NoMemory = NoMemory

-- at least one worker, and no more than the most that a run may have
abbrev pub IsInRange : ℕ → Type 0
IsInRange number = (1 ≤ number) × (number ≤ MOST_WORKERS)

-- The step that counts the processors. What it says of files holds where they are told.
pub record CountsProcessors (before after : Seen Files) (result : Result ℕ TableRefusal) : Type 0 where
  pub number : IfOk result (λ number. IfSome before.told (GivesProcessors number))
  pub range : IfOk result IsInRange
  pub refused : IfErr result (λ refusal. IfSome before.told (HasTableCause refusal))
  pub same : after.told ≡ before.told
  pub count : RisesExactlyIf before.faults after.faults (table_failed result)
