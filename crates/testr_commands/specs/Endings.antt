-- What is told at the end of a call, behind all else, of tests that were asked for and did not run, and the list that tells what is
-- expected of a load (docs/COMMANDS.md, "Tests that did not run").
use Rattle.std.specs.Prelude.{◌≡◌, ◌⊎◌, ℕ, ◌≤◌, Bool, true, false, not, ◌&&◌, ◌||◌, nat_eq, is_some, Option, None, Some, IsSomeAnd, List, [], ◌∷◌, ◌++◌, codes, length, Result, Ok, Err, IsOk, if◌then◌else◌}
use Rattle.std.specs.List.{list_any, flat_map}
use Rattle.edge_io.specs.Causes.{Rose}
use Rattle.edge_io.specs.Disk.{Files, Folder}
use Rattle.edge_io.specs.Seen.{Seen}
use Rattle.edge_io.specs.Steps.{Goes}
use Rattle.missing_tests.specs.Missing.{missing_text, some_missing}
use Rattle.outcome_fold.specs.Answers.{counted_rows}
use Rattle.outcome_fold.specs.Rows.{rows_of}
use Rattle.outcome_fold.specs.declared.row.Row.{Row}
use Rattle.packet_codec.specs.declared.event.Event.{Event}
use Rattle.run_shelf.specs.Holds.{kinds_of}
use Rattle.run_shelf.specs.declared.found.Found.{Found}
use Rattle.speaker.specs.Speaking.{Takes}
use Rattle.suite_plan.specs.Choosing.{Ids}
use Rattle.suite_plan.specs.LoadList.{IsLoadList, ReadsLoadList}
use Rattle.suite_plan.specs.declared.load_list.ListRefusal.{ListRefusal}
use Rattle.testr_conf.specs.Settings.{Settings}
use Rattle.testr_words.specs.Suites.{Wanted, RunOptions, LoadOptions, is_partial}
use Rattle.testr_words.specs.Tasks.{Task, load, run}
use Rattle.command_steps.specs.Files.{RecordsSources}
use Rattle.command_steps.specs.Outside.{Outside, Work, work_of, work_folder}
use Rattle.command_steps.specs.Refreshing.{Refreshes}
use Rattle.command_steps.specs.Refusals.{exit_status}
use Rattle.command_steps.specs.Reporting.{Report, Reports}
use Rattle.command_steps.specs.Runs.{AddsRun}
use Rattle.command_steps.specs.Selecting.{Selects, Planned, Plans}
use Rattle.command_steps.specs.Steps.{At}
use Rattle.command_steps.specs.Store.{Opens, TakesRun, Begins, Keeps}
use Rattle.command_steps.specs.Working.{Works}
use Rattle.command_steps.specs.declared.answer.Refusal.{Refusal}
use Rattle.command_steps.specs.declared.answer.Refusal.TheVariants.{LoadList}
use Rattle.command_steps.specs.declared.answer.Verdict.{Verdict}
use Rattle.command_steps.specs.declared.test_selection.Selected.{Selected}
use Rattle.testr_commands.specs.Forced.{ReadsReady}
use Rattle.testr_commands.specs.Program.{Tells}
use Rattle.testr_commands.specs.Spoken.{HavePackets}
use Rattle.testr_commands.specs.Workers.{HasPlanned}

-- ---- what is left to tell of a run

-- something is said by patterns of the ids that are wanted
abbrev pub has_pattern : Wanted → Bool
has_pattern wanted = not (nat_eq (length wanted.patterns) 0) || (not (nat_eq (length wanted.excluded) 0) || (is_some wanted.include_list || is_some wanted.exclude_list))

-- ids are given, and none of them is wanted
abbrev pub selects_none : Option Ids → Bool
selects_none None = false
selects_none (Some ids) = nat_eq (length ids) 0

-- a job names an id
abbrev pub names_some : List Ids → Bool
names_some asked = list_any (λ ids. not (nat_eq (length ids) 0)) asked

-- Tests were asked for: a job names one; or patterns were given, and none of the ids has what they want. Where a shard has none of
-- the ids that are wanted, none was asked for.
abbrev pub asks_tests : Wanted → Option Ids → (asked : List Ids) → Bool
asks_tests wanted chosen asked = names_some asked || (has_pattern wanted && selects_none chosen)

-- no row of the run is counted, where these tags filter
abbrev pub none_counted : (filter_tags : Ids) → List Row → Bool
none_counted filter_tags rows = nat_eq (length (counted_rows filter_tags rows)) 0

-- tests were asked for, and none of them ran
abbrev pub none_ran : (asks : Bool) → (filter_tags : Ids) → List Row → Bool
none_ran asks filter_tags rows = asks && none_counted filter_tags rows

-- the line that tells so
abbrev pub none_ran_text : List ℕ
none_ran_text = codes "testr: no test ran\n"

-- that line, where it is so
abbrev pub none_ran_lines : Bool → List ℕ
none_ran_lines none = if none then none_ran_text else []

-- what is told of a run whose jobs name these ids: which of them did not run, and that none did
abbrev pub run_lines : (asks : Bool) → (asked : List Ids) → (filter_tags : Ids) → List Row → List ℕ
run_lines asks asked filter_tags rows = missing_text (flat_map (λ ids. ids) asked) rows ++ none_ran_lines (none_ran asks filter_tags rows)

-- ---- what is told at an end

-- what is told at the end: by the work before the call and the folder behind it, the text, and whether it fails the call
abbrev pub Ending : Type 1
Ending = Work → Option Folder → List ℕ → Bool → Type 0

-- Of a run: its jobs were planned so, the folder shows one run more, of these events, and the text is that of its rows. It fails the
-- call where tests were asked for and none ran.
pub record EndsRun (options : RunOptions) (before : Work) (folder : Option Folder) (text : List ℕ) (fails : Bool) : Type 0 where
  pub plan : Planned
  pub planning : Work
  pub planned : HasPlanned options before planning plan
  pub events : List Event
  pub have : HavePackets events
  pub stored : Goes before.folder.told folder (AddsRun (is_partial options) events)
  pub text_is : text ≡ run_lines (asks_tests options.wanted planned.selected.ids plan.asked) plan.asked planned.settings.filter_tags (rows_of events)
  pub fails_is : fails ≡ none_ran (asks_tests options.wanted planned.selected.ids plan.asked) planned.settings.filter_tags (rows_of events)

-- Of a load of which these ids are expected: the folder shows one run more, of these events, and the text tells which of the ids did
-- not run by its rows. It fails the call where there are some.
pub record EndsLoad (partial : Bool) (expected : Ids) (before : Work) (folder : Option Folder) (text : List ℕ) (fails : Bool) : Type 0 where
  pub events : List Event
  pub have : HavePackets events
  pub stored : Goes before.folder.told folder (AddsRun partial events)
  pub text_is : text ≡ missing_text expected (rows_of events)
  pub fails_is : fails ≡ some_missing expected (rows_of events)

-- such an end, from where it begins
abbrev pub Begun : Ending → Ending
Begun ending = ending

-- the same, where a repository may have been made first
abbrev pub Readied : Ending → Ending
Readied ending before folder text fails =
    ending before folder text fails
    ⊎ ((ready : Work) × (ready ≡ work_folder.put before ready.folder) × Goes before.folder.told ready.folder.told ReadsReady × ending ready folder text fails)

-- the status where the command was done and would have answered this: 1 where what is told at the end fails the call
abbrev pub status_at_end : (fails : Bool) → ℕ → ℕ
status_at_end true inner = 1
status_at_end false inner = inner

-- What is promised of a call at whose end something is told, behind its report and all other lines. A refusal stands, and nothing is
-- told then. A sink that fails is no fault of the call.
pub record Ends (ending : Ending) (promises : Outside → Outside → ℕ → Type 0) (before after : Outside) (answer : ℕ) : Type 0 where
  -- what it would have answered, and the errors' sink then
  pub inner : ℕ
  pub told : Seen (List ℕ)
  pub rest : promises before (record after { errors = told }) inner
  pub refused : 2 ≤ inner → (answer ≡ inner) × (after.errors ≡ told)
  pub done : inner ≤ 1 → (text : List ℕ) × (fails : Bool) × (failed : Bool) × ending (work_of before) after.folder.told text fails × Takes text told after.errors failed × (answer ≡ status_at_end fails inner)

-- ---- of which task

-- of a load, where ids are expected of it
abbrev pub AddingLoad : (Ending → Ending) → (expected : Option Ids) → (partial : Bool) → (promises : Outside → Outside → ℕ → Type 0) → Outside → Outside → ℕ → Type 0
AddingLoad wrap None partial promises = promises
AddingLoad wrap (Some ids) partial promises = Ends (wrap (EndsLoad partial ids)) promises

-- of a run, and of such a load; at the end of every other task nothing is told
abbrev pub Adding : (Ending → Ending) → (expected : Option Ids) → Option Task → (promises : Outside → Outside → ℕ → Type 0) → Outside → Outside → ℕ → Type 0
Adding wrap expected (Some (run options)) promises = Ends (wrap (EndsRun options)) promises
Adding wrap expected (Some (load options names)) promises = AddingLoad wrap expected options.partial promises
Adding wrap expected asked promises = promises

-- ---- the list of what is expected

-- the list was refused, and nothing else was touched
pub record RefusesList (refusal : ListRefusal) (before after : Outside) (answer : ℕ) : Type 0 where
  pub same : work_of after ≡ work_of before
  pub told : Tells (Err (LoadList refusal)) before.errors after.errors answer

-- the list gave these ids, of which the rest is promised; or it was refused
abbrev pub ExpectsSo : Result Ids ListRefusal → (promises : Option Ids → Outside → Outside → ℕ → Type 0) → Outside → Outside → ℕ → Type 0
ExpectsSo (Ok ids) promises = promises (Some ids)
ExpectsSo (Err refusal) promises = RefusesList refusal

-- the list of this name is told to be there, not to be too long, and to have texts alone
abbrev pub CanExpect : List ℕ → Option Files → Type 0
CanExpect name told = IsSomeAnd told (λ files. (ids : Ids) × IsLoadList name ids files)

-- the list of this name was read before anything else was done
pub record Expects (name : List ℕ) (promises : Option Ids → Outside → Outside → ℕ → Type 0) (before after : Outside) (answer : ℕ) : Type 0 where
  pub listed : Seen Files
  pub result : Result Ids ListRefusal
  pub reads : ReadsLoadList name before.site listed result
  pub goes : ExpectsSo result promises (record before { site = listed }) after answer
  -- it does not give up at the list without a cause
  pub completeness : CanExpect name before.site.told → (Rose before.site.faults after.site.faults → ⊥) → IsOk result ⊎ (answer ≡ 5)

-- what is promised, by the list that is named, of the ids of that list, or of none
abbrev pub Expecting : (name : Option (List ℕ)) → (promises : Option Ids → Outside → Outside → ℕ → Type 0) → Outside → Outside → ℕ → Type 0
Expecting None promises = promises None
Expecting (Some name) promises = Expects name promises

-- ---- what the code keeps of it

-- the steps of a run that was kept and told of, and what is left to tell of its rows
pub record LeavesRunEnd (options : RunOptions) (settings : Settings) (before after : Work) (text : List ℕ) (fails : Bool) : Type 0 where
  pub found : Found
  pub opened : Work
  pub opens : At work_folder Opens before opened (Ok found)
  pub selected : Selected
  pub selecting : Work
  pub selects : Selects settings options opened selecting (Ok selected)
  pub plan : Planned
  pub planning : Work
  pub plans : Plans settings options.find_causes selected selecting planning (Ok plan)
  pub rows : List Row
  pub worked : Work
  pub works : Works (is_partial options) (length (kinds_of found)) plan planning worked (Ok rows)
  pub still : after.folder.told ≡ worked.folder.told
  pub text_is : text ≡ run_lines (asks_tests options.wanted selected.ids plan.asked) plan.asked settings.filter_tags rows
  pub fails_is : fails ≡ none_ran (asks_tests options.wanted selected.ids plan.asked) settings.filter_tags rows

-- what is left to tell of the rows of a load, where ids are expected of it
pub record LeavesText (expected : Ids) (rows : List Row) (text : List ℕ) (fails : Bool) : Type 0 where
  pub text_is : text ≡ missing_text expected rows
  pub fails_is : fails ≡ some_missing expected rows

-- the steps of a load that was kept and told of, and what is left to tell of its rows
pub record LeavesLoadEnd (options : LoadOptions) (names : List (List ℕ)) (expected : Ids) (before after : Work) (text : List ℕ) (fails : Bool) : Type 0 where
  pub found : Found
  pub opened : Work
  pub opens : At work_folder Opens before opened (Ok found)
  pub takes : TakesRun (length (kinds_of found)) (Ok tt)
  pub begun : Work
  pub begins : At work_folder Begins opened begun (Ok tt)
  pub rows : List Row
  pub recorded : Work
  pub records : RecordsSources names begun recorded (Ok rows)
  pub report : Report
  pub reports : Reports options.format (length (kinds_of found)) [] rows (Ok report)
  pub kept : Work
  pub keeps : At work_folder (Keeps options.partial (length (kinds_of found))) recorded kept (Ok tt)
  pub refreshed : Work
  pub refreshes : At work_folder (Refreshes (length (kinds_of found)) rows) kept refreshed (Ok tt)
  pub still : after.folder.told ≡ refreshed.folder.told
  pub left : LeavesText expected rows text fails

-- The outcome was told, and behind it what was left to tell, where the command was done.
pub record TellsLeft (outcome : Result Verdict Refusal) (text : List ℕ) (fails : Bool) (before after : Seen (List ℕ)) (answer : ℕ) : Type 0 where
  pub inner : ℕ
  pub told : Seen (List ℕ)
  pub tells : Tells outcome before told inner
  pub refused : 2 ≤ inner → (answer ≡ inner) × (after ≡ told)
  pub done : inner ≤ 1 → (failed : Bool) × Takes text told after failed × (answer ≡ status_at_end fails inner)

-- the same of a load: nothing is left where nothing is expected of it
abbrev pub TellsExpected : (expected : Option Ids) → (outcome : Result Verdict Refusal) → (text : List ℕ) → (fails : Bool) → Seen (List ℕ) → Seen (List ℕ) → ℕ → Type 0
TellsExpected None outcome text fails = Tells outcome
TellsExpected (Some ids) outcome text fails = TellsLeft outcome text fails

-- a status that tells the same of the call as this one, but that 0 may be 1
pub record IsCodeOf (code answer : ℕ) : Type 0 where
  pub few : answer ≤ 1 → code ≤ 1
  pub three : answer ≡ 3 → code ≡ 3
  pub none : answer ≡ 0 → code ≡ 0
