-- What a call of the program promises.
use Rattle.std.specs.Prelude.{◌≡◌, ◌⊎◌, ⊤, ℕ, ◌≤◌, ◌<◌, Bool, IsTrue, true, false, Option, Some, None, IsSomeAnd, IfSome, All, List, [], ◌∷◌, length, Result, Ok, Err}
use Rattle.std.specs.Io.KnownBytes.{Appends, IsAtEnd}
use Rattle.edge_io.specs.Bytes.{AppendsPrefix}
use Rattle.edge_io.specs.Causes.{Rose}
use Rattle.edge_io.specs.Disk.{Folder}
use Rattle.edge_io.specs.Seen.{Seen}
use Rattle.edge_io.specs.Steps.{Goes}
use Rattle.edge_io.specs.Limits.{most_bytes}
use Rattle.sub_number.specs.declared.memory.NoMemory.{NoMemory}
use Rattle.packet_codec.specs.declared.event.Event.{Event}
use Rattle.packet_codec.specs.Grammar.{AreBytes}
use Rattle.outcome_fold.specs.Rows.{rows_of}
use Rattle.outcome_fold.specs.Answers.{status_of}
use Rattle.run_ledger.specs.Refreshing.{KeepsSound}
use Rattle.run_shelf.specs.Images.{MakesRepository}
use Rattle.run_shelf.specs.Repository.{Run, Shows, IsRepository, most_runs, format_name}
use Rattle.command_steps.specs.Reporting.{report_for}
use Rattle.testr_commands.specs.Answer.{has_kept, may_have_kept, is_copied, may_have_printed, IsChildFault}
use Rattle.command_steps.specs.Refusals.{refusal_text, exit_status, fault_place_in}
use Rattle.testr_commands.specs.Ask.{Asks}
use Rattle.command_steps.specs.Files.{AreSources, HasRecordedInTurn}
use Rattle.testr_commands.specs.Init.{Inits}
use Rattle.testr_commands.specs.Load.{Loads}
use Rattle.command_steps.specs.Outside.{Outside, LeavesOutside, Work, work_of, work_folder, work_shown, SomeRose, RisesAt}
use Rattle.testr_commands.specs.Printed.{PrintsInPart}
use Rattle.command_steps.specs.Refreshing.{BringsCaches}
use Rattle.testr_commands.specs.RunSuite.{ListsSuite, RunsSuite}
use Rattle.command_steps.specs.Runs.{HasRuns, KeepsFiles, KeepsRepository, KeepsRuns, AddsRun}
use Rattle.command_steps.specs.Says.{SaysOfFolder}
use Rattle.testr_words.specs.Questions.{OfLastRun}
use Rattle.testr_commands.specs.SelfTest.{TestsItself, SumsUpAll}
use Rattle.command_steps.specs.Steps.{Step, At}
use Rattle.testr_commands.specs.Stops.{PassesTask}
use Rattle.testr_commands.specs.Stored.{Stores}
use Rattle.testr_commands.specs.SuiteProgram.{ListsAll, RunsAll, CanList, CanRun}
use Rattle.testr_words.specs.Tasks.{Task, init, load, ask, list, run, selftest, upgrade}
use Rattle.old_upgrade.specs.Upgrading.{StaysOrNot}
use Rattle.testr_commands.specs.Upgrade.{UpgradesAll, DidUpgrade, CanUpgrade, KeepsWithoutCaches}
use Rattle.command_steps.specs.Verdicts.{verdict_exit_status}
use Rattle.command_steps.specs.declared.answer.Refusal.{Refusal}
use Rattle.command_steps.specs.declared.answer.Refusal.TheVariants.{Usage, Memory}
use Rattle.testr_commands.specs.Workers.{LeavesRun}
use Rattle.command_steps.specs.declared.answer.Verdict.{Verdict}
use Rattle.testr_words.specs.declared.command.Question.{Question}
use Rattle.command_steps.specs.declared.usage.UsageFault.TheVariants.{Words}
use Rattle.testr_words.specs.Suites.{LoadOptions}

-- ---- refusals

-- words that are no command are refused, and touch nothing
pub record Refuses (before after : Work) (outcome : Result Verdict Refusal) : Type 0 where
  pub usage : outcome ≡ Err (Usage Words)
  pub same : after ≡ before

-- memory was wanting while the words were read, and nothing was touched
pub record GivesUp (before after : Work) (outcome : Result Verdict Refusal) : Type 0 where
  pub fault : NoMemory
  pub memory : outcome ≡ Err (Memory fault)
  pub same : after ≡ before

-- what is told of a refusal went to the errors' sink: whole, or in part where that sink failed
abbrev pub TellsLine : Result Verdict Refusal → Seen (List ℕ) → Seen (List ℕ) → Type 0
TellsLine (Ok verdict) before after = after ≡ before
TellsLine (Err refusal) before after = AppendsPrefix before.told after.told (refusal_text refusal) × (Appends before.told after.told (refusal_text refusal) ⊎ Rose before.faults after.faults)

-- the line of the outcome was told so, and the status is the outcome's
pub record Tells (outcome : Result Verdict Refusal) (before after : Seen (List ℕ)) (answer : ℕ) : Type 0 where
  pub line : TellsLine outcome before after
  pub code : answer ≡ exit_status outcome

-- ---- `load`

-- the input was read to its end where no file is named, and is as before where files are
abbrev pub ReadsInputFor : List (List ℕ) → Seen (List ℕ) → Seen (List ℕ) → Type 0
ReadsInputFor [] before after = IsAtEnd after.told
ReadsInputFor (name ∷ names) before after = after ≡ before

-- Each source was read to its end. Whatever runs the folder shows, it shows one run more, of what is recorded of the
-- sources in turn, and the report of its rows was printed, for the reader that is asked for; the status is theirs. Where the files were sound, the caches are
-- those of all runs.
pub record LoadsAll (options : LoadOptions) (names : List (List ℕ)) (before after : Work) (answer : ℕ) : Type 0 where
  pub sources : List (List ℕ)
  pub are_sources : AreSources names before.site.told before.input.told sources
  pub are_bytes : All AreBytes sources
  pub events : List Event
  pub recorded : HasRecordedInTurn 0 sources events
  pub at_end : ReadsInputFor names before.input after.input
  pub stored : Goes before.folder.told after.folder.told (AddsRun options.partial events)
  pub cached : Goes before.folder.told after.folder.told BringsCaches
  pub printed : IfSome before.folder.told (λ s. (runs : List Run) → Shows s.disk.published runs → Appends before.out.told after.out.told (report_for options.format (rows_of events) (length runs) []))
  pub status : answer ≡ status_of (rows_of events)

-- ---- questions

-- the answer of the runs that the folder shows was printed, the status is that of its verdict, and nothing else happened
pub record AnswersQuestion (question : Question) (before after : Work) (answer : ℕ) : Type 0 where
  pub text : List ℕ
  pub verdict : Verdict
  pub says : IfSome after.folder.told (SaysOfFolder question text verdict)
  pub kept : Goes before.folder.told after.folder.told KeepsFiles
  pub site : after.site ≡ before.site
  pub spawner : after.spawner ≡ before.spawner
  pub input : after.input ≡ before.input
  pub printed : Appends before.out.told after.out.told text
  pub status : answer ≡ verdict_exit_status verdict

-- ---- completeness

-- there is no repository yet
abbrev pub CanInit : Work → Type 0
CanInit before = IsSomeAnd before.folder.told (λ s. s.disk.published format_name ≡ None)

-- no source is missing, nor too long, as they are told
abbrev pub HasSources : List (List ℕ) → Work → Type 0
HasSources [] before = IsSomeAnd before.input.told (λ bytes. length bytes ≤ most_bytes)
HasSources (name ∷ names) before = IsSomeAnd before.site.told (λ files. All (λ n. IsSomeAnd (files n) (λ bytes. length bytes ≤ most_bytes)) (name ∷ names))

-- the folder is told to take a run, and no source to be missing or too long
pub record CanLoad (names : List (List ℕ)) (before : Work) : Type 0 where
  pub free : IsSomeAnd before.folder.told (λ s. (number : ℕ) × (number < most_runs) × HasRuns number s)
  pub short : HasSources names before

-- the folder is told to be a repository, with a run where the question is of the last one
pub record CanAsk (question : Question) (before : Work) : Type 0 where
  pub repository : IsSomeAnd before.folder.told (λ s. IsRepository s.disk.published)
  pub some : OfLastRun question → IsSomeAnd before.folder.told (λ s. (number : ℕ) × (0 < number) × HasRuns number s)

-- ---- the tables: a line for each task, or for those that differ, and a last one for all others

-- what a task does to the parts that it touches; all else stays
abbrev pub Performs : Option Task → Step Work Verdict Refusal
Performs None = Refuses
Performs (Some init) = At work_folder Inits
Performs (Some (load options names)) = Loads options names
Performs (Some (ask question)) = At work_shown (Asks question)
Performs (Some (list options)) = ListsSuite options
Performs (Some (run options)) = RunsSuite options
Performs (Some (selftest drawing)) = TestsItself drawing
Performs (Some upgrade) = At work_shown UpgradesAll

-- what was done, where the status is 0 or 1
abbrev pub Does : Option Task → Work → Work → ℕ → Type 0
Does None before after answer = ⊥
Does (Some init) before after answer = Goes before.folder.told after.folder.told MakesRepository × (answer ≡ 0)
Does (Some (load options names)) before after answer = LoadsAll options names before after answer
Does (Some (ask question)) before after answer = AnswersQuestion question before after answer
Does (Some (list options)) before after answer = ListsAll options before after answer
Does (Some (run options)) before after answer = RunsAll options before after answer
Does (Some (selftest drawing)) before after answer = SumsUpAll drawing before after answer
Does (Some upgrade) before after answer = DidUpgrade before after answer

-- no refusal but a fault or want of memory has a cause
abbrev pub CanPerform : Option Task → Work → Type 0
CanPerform None before = ⊥
CanPerform (Some init) before = CanInit before
CanPerform (Some (load options names)) before = CanLoad names before
CanPerform (Some (ask question)) before = CanAsk question before
CanPerform (Some (list options)) before = CanList options before
CanPerform (Some (run options)) before = CanRun options before
CanPerform (Some (selftest drawing)) before = ⊤
CanPerform (Some upgrade) before = CanUpgrade before

-- what stays as it was at every exit; of a run, what it has started and printed by then
abbrev pub Leaves : Option Task → Outside → Outside → Type 0
Leaves (Some (list options)) before after = ⊤
Leaves (Some (run options)) before after = LeavesRun options (work_of before) (work_of after)
Leaves (Some (selftest drawing)) before after = LeavesOutside before after
Leaves asked before after = after.spawner ≡ before.spawner

-- what it keeps of a folder where it keeps no run: the files, and `init`, which may put `format` beside them, the runs;
-- `upgrade` may have put converted runs beside those of a folder of the original tool, which it still is
abbrev pub KeepsWithoutRun : Option Task → Folder → Folder → Type 0
KeepsWithoutRun (Some init) = KeepsRuns
KeepsWithoutRun (Some upgrade) = StaysOrNot
KeepsWithoutRun asked = KeepsFiles

-- What is promised of sound files. A folder of the original tool is not spoken of in which a cache stands.
abbrev pub KeepsSoundFor : Option Task → Folder → Folder → Type 0
KeepsSoundFor (Some upgrade) = KeepsWithoutCaches
KeepsSoundFor asked = KeepsSound

-- it starts programs, so a fault may be that of one of them, of which there is no count
abbrev pub StartsPrograms : Option Task → Type 0
StartsPrograms (Some (list options)) = ⊤
StartsPrograms (Some (run options)) = ⊤
StartsPrograms asked = ⊥

-- a part that it touches failed
abbrev pub SomeFailed : Option Task → Work → Work → Type 0
SomeFailed (Some (selftest drawing)) before after = Rose before.out.faults after.out.faults
SomeFailed asked before after = SomeRose before after

-- it was done, or memory was wanting; `init` takes no memory
abbrev pub IsPerformed : Option Task → ℕ → Type 0
IsPerformed None answer = ⊥
IsPerformed (Some init) answer = answer ≡ 0
IsPerformed asked answer = (answer ≤ 1) ⊎ (answer ≡ 5)

-- ---- the answer

-- what was asked for was done; or, where words were read for it, memory was wanting for them
abbrev pub PerformsOrNot : (reading : Bool) → Option Task → Step Work Verdict Refusal
PerformsOrNot reading asked before after outcome = Performs asked before after outcome ⊎ (IsTrue reading × GivesUp before after outcome)

-- one outcome, which the steps of the command made, and its line and its status
pub record Answers (reading : Bool) (asked : Option Task) (before after : Outside) (answer : ℕ) : Type 0 where
  pub outcome : Result Verdict Refusal
  pub done : PerformsOrNot reading asked (work_of before) (work_of after) outcome
  pub told : Tells outcome before.errors after.errors answer

-- ---- the promises

-- What each call promises that is asked for this, from the outside before it to that after it. Nothing is asked for where
-- words are no command. Where words were read for it, `reading`, memory may be wanting for them.
pub record Promises (reading : Bool) (asked : Option Task) (before after : Outside) (answer : ℕ) : Type 0 where
  -- there is one outcome, which the task's steps made, and the status and the line on the errors' sink are its own
  pub answers : Answers reading asked before after answer
  -- the count of that part's faults rose whose fault the outcome is, and no other
  pub counts : RisesAt (fault_place_in answers.outcome) (work_of before) (work_of after)
  pub usage : answer ≡ 2 → asked ≡ None
  pub no_command : asked ≡ None → (answer ≡ 2) ⊎ (IsTrue reading × (answer ≡ 5))
  -- a part that is touched failed; or, where programs are started, one of them
  pub fault : answer ≡ 4 → SomeFailed asked (work_of before) (work_of after) ⊎ (StartsPrograms asked × IsChildFault answers.outcome)
  pub leaves : Leaves asked before after
  -- nothing was printed, or a first part of what the task prints where it is done
  pub prints : PrintsInPart asked (work_of before) (work_of after)
  -- nothing was, where the step that refuses comes before the printing
  pub unprinted : may_have_printed (is_copied asked) answers.outcome ≡ false → after.out.told ≡ before.out.told
  -- reads give the files that they gave, whatever these are, unless a run was kept, or the call failed from its naming on
  pub kept : may_have_kept asked answers.outcome ≡ false → Goes before.folder.told after.folder.told (KeepsWithoutRun asked)
  -- where the step that refuses comes behind the keeping of a run, that is stored
  pub stored : has_kept asked answers.outcome ≡ true → Stores asked (work_of before) (work_of after)
  pub repository : Goes before.folder.told after.folder.told KeepsRepository
  -- a stop at each moment leaves what one before the call might have left, or the files as reads gave them before the
  -- call with all that the task adds
  pub any_moment : Goes before.folder.told after.folder.told (PassesTask asked (work_of before) (work_of after))
  -- where all that a stop before the call might have left is sound, so is what one at each moment of it leaves
  pub sound : Goes before.folder.told after.folder.told (KeepsSoundFor asked)
  pub did : answer ≤ 1 → Does asked (work_of before) (work_of after) answer
  -- it does not give up without a cause
  pub completeness : CanPerform asked (work_of before) → (SomeFailed asked (work_of before) (work_of after) → ⊥) → IsPerformed asked answer ⊎ (IsTrue reading × (answer ≡ 5))
