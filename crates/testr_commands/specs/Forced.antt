-- What a call promises that makes a repository where there is none, and then goes on: `--force-init` (docs/COMMANDS.md, "Words").
use Rattle.std.specs.Prelude.{◌≡◌, ◌⊎◌, ℕ, ◌≤◌, Bool, IsTrue, true, false, Option, None, Some, IsSome, IfSome, List, Result}
use Rattle.edge_io.specs.Disk.{Files, Folder, IsImage, put}
use Rattle.edge_io.specs.Moments.{Passes}
use Rattle.edge_io.specs.Steps.{Goes}
use Rattle.run_ledger.specs.Refreshing.{KeepsSound}
use Rattle.run_shelf.specs.Images.{HasFormatBeside, PassesOld}
use Rattle.run_shelf.specs.Repository.{format_name, format_bytes}
use Rattle.command_steps.specs.Outside.{Outside, Work, work_of, SomeRose}
use Rattle.command_steps.specs.Runs.{KeepsFiles}
use Rattle.command_steps.specs.declared.answer.Verdict.{Verdict}
use Rattle.command_steps.specs.declared.answer.Refusal.{Refusal}
use Rattle.testr_words.specs.Suites.{RunOptions, is_partial}
use Rattle.testr_words.specs.Tasks.{Task, init, load, run}
use Rattle.testr_commands.specs.Answer.{may_have_kept}
use Rattle.testr_commands.specs.Program.{CanPerform, GivesUp, Tells, Promises}
use Rattle.testr_commands.specs.Stops.{HasLoadedRun}
use Rattle.testr_commands.specs.SuiteStops.{HasSuiteRun}
use Rattle.testr_commands.specs.Workers.{RunsWorkers}

-- ---- the folder behind the first part

-- the files, where this is what `format` holds: with `format` beside them where it is not there
abbrev pub ready_with : Option (List ℕ) → Files → Files
ready_with None files = put files format_name format_bytes
ready_with (Some bytes) files = files

-- the files with `format` beside them where it is not there, and else as they are, whatever it holds
abbrev pub ready_files : Files → Files
ready_files files = ready_with (files format_name) files

-- reads give these files
abbrev pub ReadsReady : Folder → Folder → Type 0
ReadsReady s t = t.disk.published ≡ ready_files s.disk.published

-- `format` is there, whatever it holds: nothing is made, reads give the same files, and a stop at each moment leaves what
-- one before might have left
pub record LeavesFormat (before ready : Outside) : Type 0 where
  pub there : IfSome before.folder.told (λ s. IsSome (s.disk.published format_name))
  pub files : Goes before.folder.told ready.folder.told KeepsFiles
  pub any_moment : Goes before.folder.told ready.folder.told PassesOld

-- `format` is there, or a repository was made, with all that `init` promises of that; nothing but the folder was touched
pub record IsMadeReady (before ready : Outside) : Type 0 where
  pub how : LeavesFormat before ready ⊎ Promises false (Some init) before ready 0
  pub count : ready.folder.faults ≡ before.folder.faults
  pub rest : ready ≡ record before { folder = ready.folder }

-- ---- what a stop leaves

-- what a stop before the call might have left, or the files as reads gave them then with `format` beside them
abbrev pub LeftReady : Folder → Files → Type 0
LeftReady s image = IsImage s.disk image ⊎ HasFormatBeside s.disk.published image

-- A stop at each moment leaves such files; or the same with the run that the task adds, as one of the task alone does. No
-- other task may be asked so.
abbrev pub PassesForced : Task → (before ready after : Work) → Folder → Folder → Type 0
PassesForced (load options names) before ready after s t = Passes (λ image. LeftReady s image ⊎ HasLoadedRun options.partial names before.site.told before.input.told (ready_files s.disk.published) image) s t
PassesForced (run options) before ready after s t = Passes (LeftReady s) s t ⊎ ((workers : RunsWorkers options ready after) × Passes (λ image. LeftReady s image ⊎ HasSuiteRun (is_partial options) workers.events (ready_files s.disk.published) image) s t)
PassesForced task before ready after s t = ⊥

-- ---- the promises

-- The folder was made ready, and from there on the call promises what the task alone does.
pub record GoesOnReady (task : Task) (before after : Outside) (answer : ℕ) : Type 0 where
  pub ready : Outside
  pub is_ready : IsMadeReady before ready
  pub rest : Promises false (Some task) ready after answer
  pub any_moment : Goes before.folder.told after.folder.told (PassesForced task (work_of before) (work_of ready) (work_of after))
  -- where what a stop before the call might have left is sound, so is what one at each moment of it leaves
  pub sound : Goes before.folder.told after.folder.told KeepsSound
  -- unless a run was kept, or the call failed from its naming on
  pub kept : may_have_kept (Some task) rest.answers.outcome ≡ false → Goes before.folder.told after.folder.told ReadsReady

-- how the call went
pub data GoesForced (reading : Bool) (task : Task) (before after : Outside) (answer : ℕ) : Type 0 where
  goes_on : GoesOnReady task before after answer → GoesForced reading task before after answer
  -- a call failed while a repository was made: as of `init` then, and nothing of the task was begun
  not_made : answer ≡ 4 → Promises false (Some init) before after answer → GoesForced reading task before after answer
  -- memory was wanting while the words were read, and nothing was touched
  not_read : IsTrue reading → (outcome : Result Verdict Refusal) → GivesUp (work_of before) (work_of after) outcome → Tells outcome before.errors after.errors answer → GoesForced reading task before after answer

-- in each outside whose folder was made ready the task can be performed
abbrev pub CanForce : Task → Work → Type 0
CanForce task before = (ready : Work) → Goes before.folder.told ready.folder.told ReadsReady → ready ≡ record before { folder = ready.folder } → CanPerform (Some task) ready

-- what each call promises that makes a repository where there is none, and then does this
pub record PromisesForced (reading : Bool) (task : Task) (before after : Outside) (answer : ℕ) : Type 0 where
  pub goes : GoesForced reading task before after answer
  -- it does not give up without a cause
  pub completeness : CanForce task (work_of before) → (SomeRose (work_of before) (work_of after) → ⊥) → (answer ≤ 1) ⊎ (answer ≡ 5)

-- What each call promises that is asked for this, where `force` says whether a repository is made first: only of a task that
-- keeps a run.
abbrev pub PromisesBy : (force reading : Bool) → Option Task → Outside → Outside → ℕ → Type 0
PromisesBy true reading (Some (load options names)) = PromisesForced reading (load options names)
PromisesBy true reading (Some (run options)) = PromisesForced reading (run options)
PromisesBy force reading asked = Promises reading asked
