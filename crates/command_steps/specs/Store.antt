-- The steps of the folder: what each does to it, why it refuses, and what it says then.
use Rattle.std.specs.Prelude.{◌≡◌, ◌⊎◌, ℕ, ◌<◌, Bool, List, ◌++◌, codes, IfSome, Result, Ok, Err, IfOk, IfErr, OnOk, OnErr}
use Rattle.std.specs.Fmt.{decimal}
use Rattle.edge_io.specs.Causes.{HasCause, RisesExactlyIf}
use Rattle.edge_io.specs.Disk.{Folder, IsImage}
use Rattle.edge_io.specs.Seen.{Seen}
use Rattle.edge_io.specs.Steps.{Goes, Opened, Dropped}
use Rattle.run_shelf.specs.declared.faults.InitFault.{InitFault}
use Rattle.run_shelf.specs.declared.faults.InitFault.TheVariants as init_fault
use Rattle.run_shelf.specs.declared.faults.OpenFault.{OpenFault}
use Rattle.run_shelf.specs.declared.faults.OpenFault.TheVariants as open_fault
use Rattle.run_shelf.specs.declared.found.Found.{Found}
use Rattle.run_shelf.specs.declared.faults.ShelfCall.TheVariants.{StartDraft}
use Rattle.run_shelf.specs.Drafts.{OfDraft, PlaceFails}
use Rattle.run_shelf.specs.Faults.{init_failed, open_failed}
use Rattle.run_shelf.specs.Holds.{kinds_of, HasRoom}
use Rattle.run_shelf.specs.Images.{MakesRepository, KeepsRun, PassesFormat, PassesOld, PassesRun}
use Rattle.run_shelf.specs.Outcomes.{InitFails, Surveys, OpenFails}
use Rattle.run_shelf.specs.Repository.{run_of, run_name, most_runs}
use Rattle.testr_words.specs.declared.command.Question.{Question}
use Rattle.testr_words.specs.Questions.{OfLastRun}
use Rattle.command_steps.specs.declared.store.RunsFault.{RunsFault}
use Rattle.command_steps.specs.declared.store.RunsFault.TheVariants.{Full, NoRuns}
use Rattle.command_steps.specs.declared.store.KeepFault.{KeepFault}

-- ---- making a repository

-- the step that makes a repository
pub record Makes (before after : Seen Folder) (result : Result (Unit {0}) InitFault) : Type 0 where
  -- what reads give before is what a stop may leave then
  pub reads : IfSome before.told (λ s. IsImage s.disk s.disk.published)
  pub made : OnOk result (Goes before.told after.told MakesRepository)
  pub refused : IfErr result (λ fault. Goes before.told after.told (InitFails fault))
  pub any_moment : Goes before.told after.told PassesFormat
  pub count : RisesExactlyIf before.faults after.faults (init_failed result)

-- The step that makes a repository where there is none. It was made; or `format` is there, whatever it holds, and stays. It is
-- refused only where a call failed.
abbrev pub MakesWhereNone : Seen Folder → Seen Folder → Result (Unit {0}) InitFault → Type 0
MakesWhereNone before after (Ok done) = Makes before after (Ok done) ⊎ Makes before after (Err init_fault.Exists)
MakesWhereNone before after (Err init_fault.Exists) = ⊥
MakesWhereNone before after (Err (init_fault.Shelf call)) = Makes before after (Err (init_fault.Shelf call))

-- the exit status where no repository is made: 3 where one is there, 4 where a call of the folder failed
abbrev pub init_exit_status : InitFault → ℕ
init_exit_status init_fault.Exists = 3
init_exit_status (init_fault.Shelf call) = 4

-- the line where no repository is made
abbrev pub init_text : InitFault → List ℕ
init_text init_fault.Exists = codes "testr: a repository is already here\n"
init_text (init_fault.Shelf call) = codes "testr: fault of the repository folder\n"

-- ---- opening it: which runs there are

-- the step that looks which runs the folder has
pub record Opens (before after : Seen Folder) (result : Result Found OpenFault) : Type 0 where
  pub found : IfOk result (λ found. Goes before.told after.told (Surveys (kinds_of found)))
  pub room : IfOk result HasRoom
  pub refused : IfErr result (λ fault. Goes before.told after.told (OpenFails fault))
  pub any_moment : Goes before.told after.told PassesOld
  pub count : RisesExactlyIf before.faults after.faults (open_failed result)

-- the exit status where the folder has no such runs: 3 by what it holds, 4 where a call of it failed, 5 where memory was
-- wanting
abbrev pub open_exit_status : OpenFault → ℕ
open_exit_status open_fault.NoStore = 3
open_exit_status open_fault.UnknownFormat = 3
open_exit_status open_fault.BadBase = 3
open_exit_status (open_fault.Gap number) = 3
open_exit_status (open_fault.Shelf call) = 4
open_exit_status open_fault.NoMemory = 5

-- the line where the folder has no such runs
abbrev pub open_text : OpenFault → List ℕ
open_text open_fault.NoStore = codes "testr: no repository here\n"
open_text open_fault.UnknownFormat = codes "testr: unknown repository format\n"
open_text open_fault.BadBase = codes "testr: the base set is damaged\n"
open_text (open_fault.Gap number) = codes "testr: run " ++ decimal number ++ codes " is missing\n"
open_text (open_fault.Shelf call) = codes "testr: fault of the repository folder\n"
open_text open_fault.NoMemory = codes "testr: out of memory\n"

-- ---- whether the runs serve the command, by how many there are

-- there is a number for a run more
pub record TakesRun (runs : ℕ) (result : Result (Unit {0}) RunsFault) : Type 0 where
  pub few : OnOk result (runs < most_runs)
  pub full : IfErr result (λ fault. (fault ≡ Full) × (runs ≡ most_runs))

-- there is a last run, where the question is of it
pub record HasRunFor (question : Question) (runs : ℕ) (result : Result (Unit {0}) RunsFault) : Type 0 where
  pub some : OnOk result (OfLastRun question → 0 < runs)
  pub none : IfErr result (λ fault. (fault ≡ NoRuns) × OfLastRun question × (runs ≡ 0))

-- the line where there are too many runs, or none
abbrev pub runs_text : RunsFault → List ℕ
runs_text Full = codes "testr: the repository is full\n"
runs_text NoRuns = codes "testr: no runs\n"

-- ---- beginning a run, and keeping it behind so many others

-- the step that begins a draft
pub record Begins (before after : Seen Folder) (result : Result (Unit {0}) KeepFault) : Type 0 where
  pub begun : OnOk result (Goes before.told after.told Opened)
  pub not_begun : OnErr result (Goes before.told after.told Dropped)
  pub failed : IfErr result (λ fault. fault.call ≡ StartDraft)
  pub count : HasCause before.faults after.faults result

-- the run is that of the draft
pub record Keeps (partial : Bool) (number : ℕ) (before after : Seen Folder) (result : Result (Unit {0}) KeepFault) : Type 0 where
  pub kept : OnOk result (Goes before.told after.told (OfDraft (λ bytes. KeepsRun number (run_of partial bytes))))
  pub failed : IfErr result (λ fault. Goes before.told after.told (OfDraft (λ bytes. PlaceFails (run_name number partial) bytes fault.call)))
  pub any_moment : Goes before.told after.told (OfDraft (λ bytes. PassesRun number (run_of partial bytes)))
  -- what reads give after is what a stop may leave then
  pub reads : IfSome after.told (λ s. IsImage s.disk s.disk.published)
  pub count : HasCause before.faults after.faults result

-- the line where a run is not kept
abbrev pub keep_text : List ℕ
keep_text = codes "testr: fault of the repository folder\n"
