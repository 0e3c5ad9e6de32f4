-- What is told at the end of a call, and what is promised beside it.
use Rattle.std.proofs.Common.{◌≡◌, ◌⊎◌, inl, inr, ℕ, zero, suc, ◌≤◌, Bool, true, false, Option, None, Some, IfSome, Result, Ok, Err, List, [], ◌++◌, length, refl, sym, ap, subst, ◌∙◌, arith}
use Rattle.edge_io.specs.Causes.{Rose}
use Rattle.edge_io.specs.Disk.{Files, Folder}
use Rattle.edge_io.specs.Seen.{Seen}
use Rattle.edge_io.specs.Spawners.{Spawning}
use Rattle.edge_io.specs.Steps.{Goes}
use Rattle.outcome_fold.specs.Summed.{Sums}
use Rattle.outcome_fold.specs.declared.summary.Summary.{Summary}
use Rattle.edge_io.proofs.Going.{goes_weaker}
use Rattle.missing_tests.specs.Missing.{missing_text, some_missing}
use Rattle.outcome_fold.specs.declared.row.Row.{Row}
use Rattle.run_shelf.specs.Holds.{kinds_of}
use Rattle.run_shelf.specs.Repository.{Run, run_of}
use Rattle.run_shelf.specs.declared.found.Found.{Found}
use Rattle.speaker.specs.Speaking.{Takes}
use Rattle.speaker.proofs.TakesLemmas.{none_yet}
use Rattle.suite_plan.specs.Choosing.{Ids}
use Rattle.suite_plan.specs.ConfFile.{ReadsConf}
use Rattle.testr_conf.specs.Settings.{Settings}
use Rattle.testr_words.specs.Suites.{RunOptions, LoadOptions, run_options, project_of, is_partial}
use Rattle.testr_words.specs.Drawings.{drawing_of}
use Rattle.testr_words.specs.Tasks.{Task, load, run, list, selftest, task_of, task_with, quiet_of, live_of, live_for}
use Rattle.testr_words.specs.declared.command.Verb.{Verb}
use Rattle.testr_words.specs.declared.command.Verb.TheVariants as verb
use Rattle.testr_words.specs.declared.selftest_words.SelfTestWords.{SelfTestWords}
use Rattle.std.specs.Borrow.{Bor}
use Rattle.std.specs.Prelude.{option_map}
use Rattle.testr_words.specs.declared.command.Command.{Command}
use Rattle.command_steps.specs.Outside.{Outside, Work, work_of, work_folder, work_site}
use Rattle.command_steps.specs.Refusals.{exit_status}
use Rattle.command_steps.specs.Files.{RecordsSources}
use Rattle.command_steps.specs.Refreshing.{Refreshes}
use Rattle.command_steps.specs.Reporting.{Report, Reports}
use Rattle.command_steps.specs.Runs.{run_bytes, KeepsFiles, AddsRun}
use Rattle.command_steps.specs.Selecting.{Selects, Planned, Plans}
use Rattle.command_steps.specs.Store.{Opens, TakesRun, Begins, Keeps}
use Rattle.command_steps.specs.Working.{Works}
use Rattle.command_steps.specs.declared.test_selection.Selected.{Selected}
use Rattle.command_steps.specs.declared.answer.Refusal.{Refusal}
use Rattle.command_steps.specs.declared.answer.Verdict.{Verdict}
use Rattle.command_steps.specs.declared.answer.Verdict.TheVariants.{Passed, Failed}
use Rattle.command_steps.proofs.Resting.{KeepsReads, goes_ends}
use Rattle.command_steps.proofs.SoundLemmas.{KeepsRunAndCaches, adds_run}
use Rattle.testr_commands.specs.Endings.{Ending, EndsRun, EndsLoad, Begun, Readied, status_at_end, Ends, AddingLoad, Adding, LeavesRunEnd, LeavesText, LeavesLoadEnd, TellsLeft, TellsExpected, IsCodeOf, run_lines, none_ran, asks_tests}
use Rattle.testr_commands.specs.Forced.{IsMadeReady}
use Rattle.testr_commands.specs.Program.{Answers, PerformsOrNot, Tells}
use Rattle.live_text.specs.declared.live.Live.{Live}
use Rattle.suite_run.specs.Aloud.{Sinks}
use Rattle.suite_run.specs.declared.run_listener.Shown.{Shown}
use Rattle.command_steps.specs.Speaking.{SaysAloud}
use Rattle.command_steps.specs.declared.live_lines.Silenced.{Silenced}
use Rattle.testr_commands.specs.SparingRun.{SparesRunOf}
use Rattle.testr_commands.specs.Spoken.{HavePackets, TakesLines, Saying, packets_for}
use Rattle.testr_commands.proofs.CallLemmas.{told_refused}
use Rattle.testr_commands.proofs.DoneLaws.{kept_through, loaded_so}
use Rattle.testr_commands.proofs.ForceLemmas.{reads_ready}
use Rattle.testr_words.specs.declared.live_kind.LiveKind.{LiveKind}
use Rattle.testr_commands.proofs.SpokenLemmas.{rose_lines, rose_still}
use Rattle.testr_commands.proofs.StepLaws.{open_quiet}
use Rattle.testr_commands.proofs.SuiteDone.{leaves_then, select_leaves, plan_leaves, work_did, seen_same}
use Rattle.testr_commands.proofs.SuiteJobs.{selected_range, few_jobs}

-- ---- what holds up to the end may be said otherwise, of parts that it does not touch

module _ (ending other : Ending) (promises others : Outside → Outside → ℕ → Type 0) (b c a d : Outside) (answer : ℕ) (each : (told : Seen (List ℕ)) (inner : ℕ) → promises b (record a { errors = told }) inner → others c (record d { errors = told }) inner) (ends : (text : List ℕ) (fails : Bool) → ending (work_of b) a.folder.told text fails → other (work_of c) d.folder.told text fails) where
  pub ends_to : d.errors ≡ a.errors → Ends ending promises b a answer → Ends other others c d answer
  ends_to same given = record {
    inner = given.inner;
    told = given.told;
    rest = each given.told given.inner given.rest;
    refused = λ two. ((given.refused two).0, same ∙ (given.refused two).1);
    done = λ small.
        let (text, fails, failed, is, takes, status) = given.done small in
        (text, fails, failed, ends text fails is, subst (λ (s : Seen (List ℕ)). Takes text given.told s failed) (sym same) takes, status);
  }

module _ (wrap wider : Ending → Ending) (promises others : Outside → Outside → ℕ → Type 0) (b c a d : Outside) (answer : ℕ) (each : (told : Seen (List ℕ)) (inner : ℕ) → promises b (record a { errors = told }) inner → others c (record d { errors = told }) inner) (ends : (e : Ending) (text : List ℕ) (fails : Bool) → wrap e (work_of b) a.folder.told text fails → wider e (work_of c) d.folder.told text fails) (same : d.errors ≡ a.errors) where
  plain : promises b a answer → others c d answer
  plain given = subst (λ (told : Seen (List ℕ)). others c (record d { errors = told }) answer) (sym same) (each a.errors answer given)

  loading_to : (expected : Option Ids) (partial : Bool) → AddingLoad wrap expected partial promises b a answer → AddingLoad wider expected partial others c d answer
  loading_to None partial given = plain given
  loading_to (Some ids) partial given = ends_to (wrap (EndsLoad partial ids)) (wider (EndsLoad partial ids)) promises others b c a d answer each (ends (EndsLoad partial ids)) same given

  pub adding_to : (expected : Option Ids) (asked : Option Task) → Adding wrap expected asked promises b a answer → Adding wider expected asked others c d answer
  adding_to expected (Some (run options)) given = ends_to (wrap (EndsRun options)) (wider (EndsRun options)) promises others b c a d answer each (ends (EndsRun options)) same given
  adding_to expected (Some (load loading names)) given = loading_to expected loading.partial given
  adding_to expected asked given = plain given

-- ---- where nothing is told

ends_none : (ending : Ending) (promises : Outside → Outside → ℕ → Type 0) (before after : Outside) (answer : ℕ) → (answer ≤ 1 → ⊥) → promises before after answer → Ends ending promises before after answer
ends_none ending promises before after answer other rest = record { inner = answer; told = after.errors; rest = rest; refused = λ two. (refl, refl); done = λ small. absurd (other small) }

loading_none : (wrap : Ending → Ending) (expected : Option Ids) (partial : Bool) (promises : Outside → Outside → ℕ → Type 0) (before after : Outside) (answer : ℕ) → (answer ≤ 1 → ⊥) → promises before after answer → AddingLoad wrap expected partial promises before after answer
loading_none wrap None partial promises before after answer other rest = rest
loading_none wrap (Some ids) partial promises before after answer other rest = ends_none (wrap (EndsLoad partial ids)) promises before after answer other rest

pub adding_none : (wrap : Ending → Ending) (expected : Option Ids) (asked : Option Task) (promises : Outside → Outside → ℕ → Type 0) (before after : Outside) (answer : ℕ) → (answer ≤ 1 → ⊥) → promises before after answer → Adding wrap expected asked promises before after answer
adding_none wrap expected (Some (run options)) promises before after answer other rest = ends_none (wrap (EndsRun options)) promises before after answer other rest
adding_none wrap expected (Some (load loading names)) promises before after answer other rest = loading_none wrap expected loading.partial promises before after answer other rest
adding_none wrap expected asked promises before after answer other rest = rest

-- of nothing that is asked for is nothing told
pub adding_nothing : (wrap : Ending → Ending) (expected : Option Ids) (asked : Option Task) (promises : Outside → Outside → ℕ → Type 0) (before after : Outside) (answer : ℕ) → None ≡ asked → promises before after answer → Adding wrap expected asked promises before after answer
adding_nothing wrap expected asked promises before after answer is rest = subst (λ (t : Option Task). Adding wrap expected t promises before after answer) is rest

-- ---- where a repository was made first

pub begun_readied : (e : Ending) (before : Work) (folder : Option Folder) (text : List ℕ) (fails : Bool) → Begun e before folder text fails → Readied e before folder text fails
begun_readied e before folder text fails given = inl given

pub ready_readied : (before ready : Outside) → IsMadeReady before ready → (e : Ending) (folder : Option Folder) (text : List ℕ) (fails : Bool) → Begun e (work_of ready) folder text fails → Readied e (work_of before) folder text fails
ready_readied before ready is e folder text fails given = inr (work_of ready, ap work_of is.rest, reads_ready before ready is, given)

-- ---- the steps of a run that was told of

module _ (folder : List ℕ) (c : Command) (settings : Settings) (a m b : Work) (text : List ℕ) (fails : Bool) where
  abbrev options : RunOptions
  options = run_options folder c

  pub run_end : ReadsConf (project_of folder c) a.site m.site (Ok settings) → m ≡ work_site.put a m.site → LeavesRunEnd (run_options [] c) settings m b text fails → EndsRun (run_options folder c) a b.folder.told text fails
  run_end conf rest given =
      let partial : Bool = is_partial options in
      let kinds : List Bool = kinds_of given.found in
      let begin : Work = given.opened in
      let few : length given.plan.jobs ≤ 64 = few_jobs settings options.find_causes given.selected given.selecting given.planning given.plan (selected_range settings options begin given.selecting given.selected given.selects) given.plans in
      let before = leaves_then begin given.selecting given.planning (select_leaves settings options begin given.selecting given.selected given.selects) (plan_leaves settings options.find_causes given.selected given.selecting given.planning given.plan given.plans) in
      let work = work_did partial (length kinds) given.plan given.planning given.worked given.rows few given.works in
      let kept_run : Run = run_of partial (run_bytes work.events) in
      let site : m.site ≡ a.site = seen_same a.site m.site conf.same (conf.count.stands refl) in
      let first : m ≡ a = rest ∙ ap (work_site.put a) site in
      let opened : begin ≡ work_folder.put a begin.folder = given.opens.rest ∙ (λ i. work_folder.put (first i) begin.folder) in
      let quiet : Goes a.folder.told begin.folder.told KeepsReads = goes_ends KeepsReads (λ i. (first i).folder.told) refl (open_quiet m begin (Ok given.found) given.opens.at) in
      let kept : Goes begin.folder.told given.worked.folder.told (KeepsRunAndCaches (length kinds) kept_run) = goes_ends (KeepsRunAndCaches (length kinds) kept_run) before.folder refl work.kept in
      let keeps : Goes begin.folder.told b.folder.told (KeepsRunAndCaches (length kinds) kept_run) = goes_ends (KeepsRunAndCaches (length kinds) kept_run) refl (sym given.still) kept in
      let stored : Goes a.folder.told b.folder.told (KeepsRunAndCaches (length kinds) kept_run) = kept_through (length kinds) kept_run a.folder.told begin.folder.told b.folder.told quiet keeps in
      let asks = asks_tests options.wanted given.selected.ids given.plan.asked in
      record {
        plan = given.plan;
        planning = given.planning;
        planned = record {
          settings = settings;
          conf = conf.conf;
          opened = begin;
          opened_is = opened;
          opened_files = goes_weaker a.folder.told begin.folder.told KeepsReads KeepsFiles quiet (λ s t rests. rests.files);
          selected = given.selected;
          selecting = given.selecting;
          selects = given.selects;
          plans = given.plans;
          few = few;
        };
        events = work.events;
        have = record { are_events = work.are_events; fit = work.fit };
        stored = goes_weaker a.folder.told b.folder.told (KeepsRunAndCaches (length kinds) kept_run) (AddsRun partial work.events) stored (adds_run partial (length kinds) work.events);
        text_is = given.text_is ∙ ap (run_lines asks given.plan.asked settings.filter_tags) work.rows_are;
        fails_is = given.fails_is ∙ ap (none_ran asks settings.filter_tags) work.rows_are;
      }

-- ---- the steps of a load that was told of

pub load_end : (loading : LoadOptions) (names : List (List ℕ)) (ids : Ids) (a b : Work) (text : List ℕ) (fails : Bool) → LeavesLoadEnd loading names ids a b text fails → EndsLoad loading.partial ids a b.folder.told text fails
load_end loading names ids a b text fails given =
    let all = loaded_so loading names a given.opened given.opened given.begun given.recorded given.recorded given.kept given.refreshed given.found given.rows given.report given.opens (record { says = given.takes; same = refl }) given.begins given.records (record { says = given.reports; same = refl }) given.keeps given.refreshes in
    let kept_run : Run = run_of loading.partial (run_bytes all.events) in
    record {
      events = all.events;
      have = all.have;
      stored = goes_weaker a.folder.told b.folder.told (KeepsRunAndCaches all.number kept_run) (AddsRun loading.partial all.events) (goes_ends (KeepsRunAndCaches all.number kept_run) refl (sym given.still) all.kept) (adds_run loading.partial all.number all.events);
      text_is = given.left.text_is ∙ ap (missing_text ids) all.rows_are;
      fails_is = given.left.fails_is ∙ ap (some_missing ids) all.rows_are;
    }

-- ---- what was told

few_code : (verdict : Verdict) → 2 ≤ exit_status (Ok verdict) → ⊥
few_code Passed two = omega (arith, two)
few_code Failed two = omega (arith, two)

-- what was left was told of what was done
pub left_done : (verdict : Verdict) (text : List ℕ) (fails : Bool) (before after : Seen (List ℕ)) (failed : Bool) (answer : ℕ) → Takes text before after failed → answer ≡ status_at_end fails (exit_status (Ok verdict)) → TellsLeft (Ok verdict) text fails before after answer
left_done verdict text fails before after failed answer takes is = record { inner = exit_status (Ok verdict); told = before; tells = record { line = refl; code = refl }; refused = λ two. absurd (few_code verdict two); done = λ small. (failed, takes, is) }

-- of a refusal nothing is left
pub left_refused : (refusal : Refusal) (text : List ℕ) (fails : Bool) (before after : Seen (List ℕ)) (answer : ℕ) → Tells (Err refusal) before after answer → TellsLeft (Err refusal) text fails before after answer
left_refused refusal text fails before after answer tells = record { inner = answer; told = after; tells = tells; refused = λ two. (refl, refl); done = λ small. absurd (told_refused refusal answer tells.code small) }

pub refused_code : (refusal : Refusal) (fails : Bool) (answer : ℕ) → answer ≡ exit_status (Err refusal) → (2 ≤ exit_status (Err refusal) → answer ≡ exit_status (Err refusal)) × (exit_status (Err refusal) ≤ 1 → answer ≡ status_at_end fails (exit_status (Err refusal)))
refused_code refusal fails answer is = (λ two. is, λ small. absurd (told_refused refusal answer is (subst (λ (n : ℕ). n ≤ 1) (sym is) small)))

pub done_code : (verdict : Verdict) (fails : Bool) (answer : ℕ) → answer ≡ status_at_end fails (exit_status (Ok verdict)) → (2 ≤ exit_status (Ok verdict) → answer ≡ exit_status (Ok verdict)) × (exit_status (Ok verdict) ≤ 1 → answer ≡ status_at_end fails (exit_status (Ok verdict)))
done_code verdict fails answer is = (λ two. absurd (few_code verdict two), λ small. is)

-- so the call ends
pub left_ends : (ending : Ending) (asked : Option Task) (before after : Outside) (answer : ℕ) (outcome : Result Verdict Refusal) (text : List ℕ) (fails : Bool) → PerformsOrNot false asked (work_of before) (work_of after) outcome → TellsLeft outcome text fails before.errors after.errors answer → (exit_status outcome ≤ 1 → ending (work_of before) after.folder.told text fails) → Ends ending (Answers false asked) before after answer
left_ends ending asked before after answer outcome text fails performed left is = record {
  inner = left.inner;
  told = left.told;
  rest = record { outcome = outcome; done = performed; told = left.tells };
  refused = left.refused;
  done = λ small.
      let (failed, takes, status) = left.done small in
      (text, fails, failed, is (subst (λ (n : ℕ). n ≤ 1) left.tells.code small), takes, status);
}

-- ---- by the status

-- whether the command was done is told by what it would have answered
few_ended : (fails : Bool) (inner : ℕ) → inner ≤ 1 → status_at_end fails inner ≤ 1
few_ended true inner small = omega arith
few_ended false inner small = small

cases_code : (code : ℕ) → (code ≤ 1) ⊎ (2 ≤ code)
cases_code zero = inl (omega arith)
cases_code (suc zero) = inl (omega arith)
cases_code (suc (suc n)) = inr (omega arith)

module _ (answer code : ℕ) (fails : Bool) (is : (2 ≤ code → answer ≡ code) × (code ≤ 1 → answer ≡ status_at_end fails code)) where
  pub few_code_of : answer ≤ 1 → code ≤ 1
  few_code_of small = elim (cases_code code) [
    | inl few ↦ few
    | inr two ↦ absurd (omega (arith, small, two, is.0 two))
  ]

  pub three_code_of : answer ≡ 3 → code ≡ 3
  three_code_of three = elim (cases_code code) [
    | inl few ↦ absurd (omega (arith, three, is.1 few, few_ended fails code few))
    | inr two ↦ sym (is.0 two) ∙ three
  ]

  passes_of : (f : Bool) → answer ≡ status_at_end f code → answer ≡ 0 → code ≡ 0
  passes_of true ended none = absurd (omega (arith, ended, none))
  passes_of false ended none = sym ended ∙ none

  pub none_code_of : answer ≡ 0 → code ≡ 0
  none_code_of none = elim (cases_code code) [
    | inl few ↦ passes_of fails (is.1 few) none
    | inr two ↦ absurd (omega (arith, none, two, is.0 two))
  ]

-- ---- what is said, and how few calls there are, by the status that was told

module _ (answer code : ℕ) (fails : Bool) (is : (2 ≤ code → answer ≡ code) × (code ≤ 1 → answer ≡ status_at_end fails code)) where
  pub says_ended : {early : Bool} (shown : Shown) (partial : Bool) (folder : Option Folder) (before after : Sinks) (silenced : Silenced) → SaysAloud shown early partial code folder before after silenced → SaysAloud shown early partial answer folder before after silenced
  says_ended shown partial folder before after silenced says = record {
    some = says.some;
    none = λ early three. says.none early (three_code_of answer code fails is three);
    whole = λ small. says.whole (few_code_of answer code fails is small);
  }

  pub spares_ended : (find partial : Bool) (old new : Option Folder) (before now : ℕ) → SparesRunOf find partial old new code before now → SparesRunOf find partial old new answer before now
  spares_ended find partial None new before now spares = tt
  spares_ended find partial (Some s) new before now spares = λ sound runs shows held.
      let few = spares sound runs shows held in
      record {
        done = λ small quiet. few.done (few_code_of answer code fails is small) (λ on. none_code_of answer code fails is (quiet on));
        refused = λ three. few.refused (three_code_of answer code fails is three);
      }

-- a sink of lines that has not failed has the count that it had
pub lines_stand : {early : Bool} (kind : Live) (partial : Bool) (answer : ℕ) (folder : Option Folder) (before after : Seen (List ℕ)) (failed : Bool) → TakesLines kind early partial answer folder before after failed → failed ≡ false → after.faults ≡ before.faults
lines_stand kind partial answer folder before after failed taken is = elim taken.some.2 [
  | inl takes ↦ takes.stands is
  | inr given ↦ given.1.stands is
]

-- the count rose of a sink that has failed, with the lines or behind them
pub silent_behind : (before spoken after : Seen (List ℕ)) (kind : Live) (partial : Bool) (answer : ℕ) (folder : Option Folder) (failed : Bool) {early now : Bool} {X : Type 0} → TakesLines kind early partial answer folder before spoken failed → (failed ≡ true → (after ≡ spoken) × X) → (failed ≡ false → now ≡ true → Rose spoken.faults after.faults) → now ≡ true → Rose before.faults after.faults
silent_behind before spoken after kind partial answer folder true taken deaf rose is = rose_still before spoken after (deaf refl).0 (rose_lines kind partial answer folder before spoken true taken refl)
silent_behind before spoken after kind partial answer folder false taken deaf rose is = subst (λ (n : ℕ). Rose n after.faults) (lines_stand kind partial answer folder before spoken false taken refl) (rose refl is)

-- ---- what the steps leave, step by step

pub leaves_run : (options : RunOptions) (settings : Settings) (a selecting planning worked b : Work) (opened : Seen Folder) (found : Found) (selected : Selected) (plan : Planned) (rows : List Row) (asks : Bool) (asked : List Ids) (tags : Ids) (text : List ℕ) (fails : Bool)
    → Opens a.folder opened (Ok found)
    → Selects settings options (work_folder.put a opened) selecting (Ok selected)
    → Plans settings options.find_causes selected selecting planning (Ok plan)
    → Works (is_partial options) (length (kinds_of found)) plan planning worked (Ok rows)
    → b.folder.told ≡ worked.folder.told
    → asks ≡ asks_tests options.wanted selected.ids plan.asked
    → asked ≡ plan.asked
    → tags ≡ settings.filter_tags
    → (text ≡ run_lines asks asked tags rows) × (fails ≡ none_ran asks tags rows)
    → LeavesRunEnd options settings a b text fails
leaves_run asked_options settings a selecting planning worked b opened found selected plan rows asks asked tags text fails opens selects plans works still asks_is asked_is tags_is left = record {
  found = found;
  opened = work_folder.put a opened;
  opens = record { at = opens; rest = refl };
  selected = selected;
  selecting = selecting;
  selects = selects;
  plan = plan;
  planning = planning;
  plans = plans;
  rows = rows;
  worked = worked;
  works = works;
  still = still;
  text_is = left.0 ∙ (λ i. run_lines (asks_is i) (asked_is i) (tags_is i) rows);
  fails_is = left.1 ∙ (λ i. none_ran (asks_is i) (tags_is i) rows);
}

pub leaves_load : (loading : LoadOptions) (names : List (List ℕ)) (ids : Ids) (a recorded b : Work) (opened begun kept refreshed : Seen Folder) (found : Found) (rows : List Row) (report : Report) (text : List ℕ) (fails : Bool)
    → Opens a.folder opened (Ok found)
    → TakesRun (length (kinds_of found)) (Ok tt)
    → Begins opened begun (Ok tt)
    → RecordsSources names (work_folder.put a begun) recorded (Ok rows)
    → Reports loading.format (length (kinds_of found)) [] rows (Ok report)
    → Keeps loading.partial (length (kinds_of found)) recorded.folder kept (Ok tt)
    → Refreshes (length (kinds_of found)) rows kept refreshed (Ok tt)
    → b.folder.told ≡ refreshed.told
    → (text ≡ missing_text ids rows) × (fails ≡ some_missing ids rows)
    → LeavesLoadEnd loading names ids a b text fails
leaves_load loading names ids a recorded b opened begun kept refreshed found rows report text fails opens takes begins records reports keeps refreshes still left = record {
  found = found;
  opened = work_folder.put a opened;
  opens = record { at = opens; rest = refl };
  takes = takes;
  begun = work_folder.put a begun;
  begins = record { at = begins; rest = refl };
  rows = rows;
  recorded = recorded;
  records = records;
  report = report;
  reports = reports;
  kept = work_folder.put recorded kept;
  keeps = record { at = keeps; rest = refl };
  refreshed = work_folder.put recorded refreshed;
  refreshes = record { at = refreshes; rest = refl };
  still = still;
  left = record { text_is = left.0; fails_is = left.1 };
}

-- ---- of which task

drawn_adds : (wrap : Ending → Ending) (expected : Option Ids) (drawn : Option SelfTestWords) (promises : Outside → Outside → ℕ → Type 0) (before after : Outside) (answer : ℕ) → promises before after answer → Adding wrap expected (option_map selftest drawn) promises before after answer
drawn_adds wrap expected None promises before after answer rest = rest
drawn_adds wrap expected (Some drawing) promises before after answer rest = rest

-- of what is listed, or drawn, nothing is told
pub list_adds : (folder : List ℕ) (c : Command) (expected : Option Ids) (before after : Outside) (answer : ℕ) → c.verb ≡ verb.ListTests → Answers false (task_with folder verb.ListTests c) before after answer → Adding Begun expected (task_of folder c) (Answers false (task_of folder c)) before after answer
list_adds folder c expected before after answer is rest = subst (λ (v : Verb). Adding Begun expected (task_with folder v c) (Answers false (task_with folder v c)) before after answer) (sym is) rest

pub draw_adds : (folder : List ℕ) (c : Command) (expected : Option Ids) (before after : Outside) (answer : ℕ) → c.verb ≡ verb.SelfTest → Answers false (task_with folder verb.SelfTest c) before after answer → Adding Begun expected (task_of folder c) (Answers false (task_of folder c)) before after answer
draw_adds folder c expected before after answer is rest =
    subst (λ (v : Verb). Adding Begun expected (task_with folder v c) (Answers false (task_with folder v c)) before after answer) (sym is)
    (drawn_adds Begun expected (drawing_of c) (Answers false (task_with folder verb.SelfTest c)) before after answer rest)

-- a run tells, whatever is expected
pub run_adds : (folder : List ℕ) (c : Command) (expected : Option Ids) (before after : Outside) (answer : ℕ) → c.verb ≡ verb.Run → Saying c.live (task_with folder verb.Run c) (Adding Begun None (task_with folder verb.Run c) (Answers false (task_with folder verb.Run c))) before after answer → Saying (live_of folder c) (task_of folder c) (Adding Begun expected (task_of folder c) (Answers false (task_of folder c))) before after answer
run_adds folder c expected before after answer is says = subst (λ (v : Verb). Saying (live_for c.live (task_with folder v c)) (task_with folder v c) (Adding Begun expected (task_with folder v c) (Answers false (task_with folder v c))) before after answer) (sym is) says

quiet_drawn : (expected : Option Ids) (drawn : Option SelfTestWords) (promises : Outside → Outside → ℕ → Type 0) (before after : Outside) (answer : ℕ) → promises before after answer → Adding Begun expected (quiet_of (option_map selftest drawn)) promises before after answer
quiet_drawn expected None promises before after answer rest = rest
quiet_drawn expected (Some drawing) promises before after answer rest = rest

-- it is no load
pub other_expected : (folder : List ℕ) (v : Verb) (c : Command) (expected : Option Ids) (promises : Outside → Outside → ℕ → Type 0) (before after : Outside) (answer : ℕ) → (v ≡ verb.Load → ⊥) → promises before after answer → Adding Begun expected (quiet_of (task_with folder v c)) promises before after answer
other_expected folder verb.Load c expected promises before after answer other rest = absurd (other refl)
other_expected folder verb.SelfTest c expected promises before after answer other rest = quiet_drawn expected (drawing_of c) promises before after answer rest
other_expected folder v c expected promises before after answer other rest = rest

-- ---- where ids are expected of a load, or not

pub code_left : (answer code : ℕ) (fails : Bool) → (2 ≤ code → answer ≡ code) × (code ≤ 1 → answer ≡ status_at_end fails code) → IsCodeOf code answer
code_left answer code fails is = record { few = few_code_of answer code fails is; three = three_code_of answer code fails is; none = none_code_of answer code fails is }

pub code_same : (answer code : ℕ) → answer ≡ code → IsCodeOf code answer
code_same answer code is = record { few = λ small. subst (λ (n : ℕ). n ≤ 1) is small; three = λ three. sym is ∙ three; none = λ none. sym is ∙ none }

pub says_coded : {early : Bool} (answer code : ℕ) (shown : Shown) (partial : Bool) (folder : Option Folder) (before after : Sinks) (silenced : Silenced) → IsCodeOf code answer → SaysAloud shown early partial code folder before after silenced → SaysAloud shown early partial answer folder before after silenced
says_coded answer code shown partial folder before after silenced is says = record {
  some = says.some;
  none = λ early three. says.none early (is.three three);
  whole = λ small. says.whole (is.few small);
}

pub expected_ends : (expected : Option Ids) (partial : Bool) (asked : Option Task) (before after : Outside) (answer : ℕ) (outcome : Result Verdict Refusal) (text : List ℕ) (fails : Bool) → PerformsOrNot false asked (work_of before) (work_of after) outcome → TellsExpected expected outcome text fails before.errors after.errors answer → IfSome expected (λ ids. exit_status outcome ≤ 1 → EndsLoad partial ids (work_of before) after.folder.told text fails) → AddingLoad Begun expected partial (Answers false asked) before after answer
expected_ends None partial asked before after answer outcome text fails performed tells is = record { outcome = outcome; done = performed; told = tells }
expected_ends (Some ids) partial asked before after answer outcome text fails performed tells is = left_ends (EndsLoad partial ids) asked before after answer outcome text fails performed tells is

-- what is said and told of a task is so of one that it is
pub task_adds : {read asked : Option Task} (kind : LiveKind) (expected : Option Ids) (before after : Outside) (answer : ℕ) → read ≡ asked → Saying (live_for kind read) read (Adding Begun expected read (Answers false read)) before after answer → Saying (live_for kind asked) asked (Adding Begun expected asked (Answers false asked)) before after answer
task_adds kind expected before after answer is says = subst (λ (task : Option Task). Saying (live_for kind task) task (Adding Begun expected task (Answers false task)) before after answer) is says

-- what was left of a load, by the ids as they are lent
pub expected_left : (expected : Option (Bor (List (List ℕ)))) (loading : LoadOptions) (names : List (List ℕ)) (a b : Seen Spawning → Work) (code : ℕ) (text : List ℕ) (fails : Bool) → (code ≤ 1 → IfSome expected (λ ids. (spawner : Seen Spawning) → LeavesLoadEnd loading names ids.now (a spawner) (b spawner) text fails)) → (spawner : Seen Spawning) → IfSome (option_map (λ ids. ids.now) expected) (λ ids. code ≤ 1 → EndsLoad loading.partial ids (a spawner) (b spawner).folder.told text fails)
expected_left None loading names a b code text fails given spawner = tt
expected_left (Some ids) loading names a b code text fails given spawner = λ small. load_end loading names ids.now (a spawner) (b spawner) text fails (given small spawner)

-- what is left of a load where ids are expected of it
pub loaded_left : (loading : LoadOptions) (names : List (List ℕ)) (expected : Option (Bor (List (List ℕ)))) (summary : Summary) (rows : List Row) (text : List ℕ) (fails : Bool) (a b : Seen Spawning → Work) → Sums [] rows summary
    → ((ids : Ids) → (text ≡ missing_text ids rows) × (fails ≡ some_missing ids rows) → (spawner : Seen Spawning) → LeavesLoadEnd loading names ids (a spawner) (b spawner) text fails)
    → IfSome expected (λ ids. (tags : Ids) (rows : List Row) → Sums tags rows summary → (text ≡ missing_text ids.now rows) × (fails ≡ some_missing ids.now rows))
    → IfSome expected (λ ids. (spawner : Seen Spawning) → LeavesLoadEnd loading names ids.now (a spawner) (b spawner) text fails)
loaded_left loading names None summary rows text fails a b sums leaves given = tt
loaded_left loading names (Some ids) summary rows text fails a b sums leaves given = leaves ids.now (given [] rows sums)

-- what a sink took of packets, by what is known of it later
pub packets_still : (asked : Option Task) (answer : ℕ) (folder : Option Folder) (before after : Seen (List ℕ)) (failed now : Bool) → now ≡ failed → packets_for asked answer folder before after failed → packets_for asked answer folder before after now
packets_still asked answer folder before after failed now is taken = subst (λ (b : Bool). packets_for asked answer folder before after b) (sym is) taken
