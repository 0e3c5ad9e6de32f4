-- What `list-tests` and `run` have done, from their chains.
use Rattle.std.proofs.Common.{◌≡◌, ℕ, zero, suc, ◌≤◌, Bool, true, false, Option, None, Some, IfSome, Result, Ok, Err, List, ◌++◌, length, All, refl, sym, ap, subst, ◌∙◌}
use Rattle.std.specs.Prelude.{⊤}
use Rattle.std.specs.Io.KnownBytes.{Appends}
use Rattle.std.proofs.KnownBytes.{Appends-trans}
use Rattle.edge_io.specs.Children.{Output}
use Rattle.edge_io.specs.Disk.{Folder}
use Rattle.edge_io.specs.Seen.{Seen}
use Rattle.edge_io.specs.Spawners.{Spawning}
use Rattle.edge_io.specs.Steps.{Goes, Stays, Grown}
use Rattle.edge_io.specs.declared.job.Job.{Job}
use Rattle.edge_io.proofs.Going.{goes_then, goes_weaker}
use Rattle.outcome_fold.specs.Rows.{rows_of}
use Rattle.outcome_fold.specs.declared.row.Row.{Row}
use Rattle.packet_codec.specs.Canonical.{IsEvent, Fits}
use Rattle.packet_codec.specs.Lanes.{IsOfLaneBelow}
use Rattle.packet_codec.specs.declared.event.Event.{Event}
use Rattle.run_shelf.specs.Holds.{kinds_of}
use Rattle.run_shelf.specs.Repository.{Run, run_of, Shows}
use Rattle.run_shelf.proofs.DraftLemmas.{goes_writes, run_kept}
use Rattle.suite_plan.specs.Calling.{CallsSo}
use Rattle.suite_plan.specs.Choosing.{Ids}
use Rattle.suite_plan.specs.Listing.{ListsTests, ListsSo}
use Rattle.suite_plan.specs.Processors.{CountsProcessors}
use Rattle.suite_run.specs.Starting.{StartsAll}
use Rattle.testr_conf.specs.Settings.{Settings}
use Rattle.worker_mux.specs.Runs.{AddsMerge}
use Rattle.command_steps.specs.Asking.{FindsFailing, FindsTimes}
use Rattle.command_steps.specs.Outside.{Work, work_folder, work_site, work_spawner}
use Rattle.command_steps.specs.Perhaps.{Perhaps, not_asked, did, refused, when}
use Rattle.command_steps.specs.Reporting.{Report, IsReport, report_for}
use Rattle.testr_commands.specs.RunSuite.{ListsSuite, RunsSuite, TellsRun}
use Rattle.command_steps.specs.Working.{Works}
use Rattle.command_steps.specs.Runs.{run_bytes, KeepsFiles, AddsRun}
use Rattle.command_steps.specs.Selecting.{UsesCalled, CountsWorkers, Selects, Planned, Plans, wants_times}
use Rattle.command_steps.specs.Steps.{Step, Then, Gives, At}
use Rattle.testr_commands.specs.Searches.{SearchesAll}
use Rattle.testr_commands.specs.SuiteProgram.{ListsAll, RunsAll}
use Rattle.testr_words.specs.Suites.{ListOptions, RunOptions, is_partial}
use Rattle.command_steps.specs.Verdicts.{verdict_exit_status}
use Rattle.command_steps.specs.declared.answer.Refusal.{Refusal}
use Rattle.command_steps.specs.declared.answer.Refusal.TheVariants as refusal
use Rattle.command_steps.specs.declared.answer.Verdict.{Verdict}
use Rattle.command_steps.specs.declared.test_selection.Selected.{Selected}
use Rattle.suite_run.proofs.NoneLostLemmas.{none_lost}
use Rattle.testr_commands.proofs.ChainLemmas.{then_did}
use Rattle.testr_commands.proofs.DoneLaws.{appended, same_verdict, status_is, kept_through}
use Rattle.command_steps.proofs.SoundLemmas.{adds_run}
use Rattle.testr_commands.proofs.MergeLaws.{AreOfOutputs, have_outputs, of_outputs}
use Rattle.testr_commands.proofs.PacketBytes.{packets_bytes}
use Rattle.command_steps.proofs.Resting.{KeepsReads, goes_ends, stays_is}
use Rattle.testr_commands.proofs.FurtherLaws.{gives_further}
use Rattle.testr_commands.proofs.FindLemmas.{TellsEvents, tells_behind, causes_still, causes_input, causes_did, all_some}
use Rattle.testr_commands.proofs.KeepingLaws.{keeps_moves}
use Rattle.command_steps.proofs.SoundLemmas.{IsCalm, PassesAll, KeepsRunAndCaches, surveyed_calm, goes_cached, fresh_through}
use Rattle.testr_commands.proofs.RowsLemmas.{rows_of_written}
use Rattle.testr_commands.proofs.StepLaws.{open_quiet}
use Rattle.testr_commands.proofs.SuiteJobs.{selected_range, few_jobs, short_ids}
use Rattle.testr_words.specs.declared.format.FormatKind.{FormatKind}

-- ---- `list-tests`

pub list_did : (options : ListOptions) (a b : Work) (v : Verdict) → ListsSuite options a b (Ok v) → ListsAll options a b (verdict_exit_status v)
list_did options a b v lists =
    let conf = then_did v lists in
    let compiled = then_did v conf.next in
    let further = then_did v compiled.next in
    let listed = then_did v further.next in
    let text = then_did v listed.next in
    let printed = then_did v text.next in
    let gives = printed.next in
    let begun : further.between.spawner.told ≡ a.spawner.told = (λ i. (further.done.rest i).spawner.told) ∙ (λ i. (compiled.done.same i).spawner.told) ∙ (λ i. (conf.done.rest i).spawner.told) in
    let ended : listed.between.spawner.told ≡ b.spawner.told = sym ((λ i. (gives.same i).spawner.told) ∙ (λ i. (printed.done.rest i).spawner.told) ∙ (λ i. (text.done.same i).spawner.told)) in
    let out : text.between.out.told ≡ a.out.told = (λ i. (text.done.same i).out.told) ∙ (λ i. (listed.done.rest i).out.told) ∙ (λ i. (further.done.rest i).out.told) ∙ (λ i. (compiled.done.same i).out.told) ∙ (λ i. (conf.done.rest i).out.told) in
    record {
      settings = conf.value;
      conf = conf.done.at.conf;
      further = further.value;
      lists = gives_further options.wanted compiled.between.site further.between.site a.site.told further.value ((λ i. (compiled.done.same i).site.told) ∙ conf.done.at.same) further.done.at;
      ids = listed.value;
      listed = goes_ends (ListsSo conf.value listed.value) begun ended listed.done.at.listed;
      printed = appended {z = printed.between.out.told} out (λ i. (sym gives.same i).out.told) text.done.says.lines printed.done.at.whole;
      status = ap verdict_exit_status (same_verdict gives.answer);
      folder = (λ i. (gives.same i).folder) ∙ (λ i. (printed.done.rest i).folder) ∙ (λ i. (text.done.same i).folder) ∙ (λ i. (listed.done.rest i).folder) ∙ (λ i. (further.done.rest i).folder) ∙ (λ i. (compiled.done.same i).folder) ∙ (λ i. (conf.done.rest i).folder);
      input = (λ i. (gives.same i).input) ∙ (λ i. (printed.done.rest i).input) ∙ (λ i. (text.done.same i).input) ∙ (λ i. (listed.done.rest i).input) ∙ (λ i. (further.done.rest i).input) ∙ (λ i. (compiled.done.same i).input) ∙ (λ i. (conf.done.rest i).input);
    }

-- ---- `run`: the steps before the workers

same_value : {A E : Type 0} {x y : A} → ◌≡◌ {A = Result A E} (Ok x) (Ok y) → x ≡ y
same_value is = cc

-- what is told stays told
abbrev pub StaysTold : {S : Type 0} → Option S → Option S → Type 0
StaysTold a b = Goes a b (λ s t. ⊤)

same_told : {S : Type 0} (a b : Option S) → b ≡ a → StaysTold a b
same_told None None same = tt
same_told None (Some t) same = cc
same_told (Some s) None same = cc
same_told (Some s) (Some t) same = tt

-- so what is so where the later state is told is so where the earlier one is
pub told_before : {S : Type 0} (a b : Option S) (R : S → S → Type 0) (X : Type 0) → Goes a b R → IfSome b (λ _. X) → IfSome a (λ _. X)
told_before None b R X step is = tt
told_before (Some s) None R X step is = absurd step
told_before (Some s) (Some t) R X step is = is

pub where_told : {S : Type 0} (a : Option S) (X Y : Type 0) → (X → Y) → IfSome a (λ _. X) → IfSome a (λ _. Y)
where_told None X Y f is = tt
where_told (Some s) X Y f is = f is

-- the folder, the input and the output are as before, and a spawner that is told stays told
pub record LeavesAsBefore (a b : Work) : Type 0 where
  pub folder : b.folder.told ≡ a.folder.told
  input : b.input ≡ a.input
  out : b.out.told ≡ a.out.told
  pub told : StaysTold a.spawner.told b.spawner.told

leaves_same : (a b : Work) → b ≡ a → LeavesAsBefore a b
leaves_same a b same = record {
  folder = λ i. (same i).folder.told;
  input = λ i. (same i).input;
  out = λ i. (same i).out.told;
  told = same_told a.spawner.told b.spawner.told (λ i. (same i).spawner.told);
}

pub leaves_then : (a m b : Work) → LeavesAsBefore a m → LeavesAsBefore m b → LeavesAsBefore a b
leaves_then a m b first second = record {
  folder = second.folder ∙ first.folder;
  input = second.input ∙ first.input;
  out = second.out ∙ first.out;
  told = goes_then a.spawner.told m.spawner.told b.spawner.told (λ s t. ⊤) (λ s t. ⊤) (λ s t. ⊤) first.told second.told (λ s m t p q. tt);
}

leaves_site : (a b : Work) → b ≡ work_site.put a b.site → LeavesAsBefore a b
leaves_site a b rest = record {
  folder = λ i. (rest i).folder.told;
  input = λ i. (rest i).input;
  out = λ i. (rest i).out.told;
  told = same_told a.spawner.told b.spawner.told (λ i. (rest i).spawner.told);
}

leaves_folder : (a b : Work) → b ≡ work_folder.put a b.folder → b.folder.told ≡ a.folder.told → LeavesAsBefore a b
leaves_folder a b rest same = record {
  folder = same;
  input = λ i. (rest i).input;
  out = λ i. (rest i).out.told;
  told = same_told a.spawner.told b.spawner.told (λ i. (rest i).spawner.told);
}

leaves_spawner : (a b : Work) → b ≡ work_spawner.put a b.spawner → StaysTold a.spawner.told b.spawner.told → LeavesAsBefore a b
leaves_spawner a b rest told = record {
  folder = λ i. (rest i).folder.told;
  input = λ i. (rest i).input;
  out = λ i. (rest i).out.told;
  told = told;
}

-- a question of the folder, where it is asked
perhaps_same : {A E : Type 0} (step : Step (Seen Folder) A E) (asked : Option (Unit {0})) (a b : Seen Folder) (result : Result (Option A) E) → ((answer : Result A E) → step a b answer → Goes a.told b.told Stays) → Perhaps asked (λ _. step) a b result → b.told ≡ a.told
perhaps_same step asked a b result stays (not_asked is answer same) = λ i. (same i).told
perhaps_same step asked a b result stays (did x value is answer done) = stays_is a.told b.told (stays (Ok value) done)
perhaps_same step asked a b result stays (refused x fault is answer done) = stays_is a.told b.told (stays (Err fault) done)

listing_told : (settings : Settings) (asked : Option (Unit {0})) (a b : Seen Spawning) (ids : Option Ids) → Perhaps asked (λ _. ListsTests settings) a b (Ok ids) → StaysTold a.told b.told
listing_told settings asked a b ids (not_asked is answer same) = same_told a.told b.told (λ i. (same i).told)
listing_told settings asked a b ids (did x value is answer done) = goes_weaker a.told b.told (ListsSo settings value) (λ s t. ⊤) done.listed (λ s t lists. tt)
listing_told settings asked a b ids (refused x fault is answer done) = cc

gives_leave : {A : Type 0} {value given : A} (a b : Work) → Gives {R = Refusal} value a b (Ok given) → LeavesAsBefore a b
gives_leave a b gives = leaves_same a b gives.same

table_leaves : (a b : Work) (number : ℕ) → Then {R = Refusal} refusal.Table (At work_site CountsProcessors) (λ given. Gives given) a b (Ok number) → LeavesAsBefore a b
table_leaves a b number counts =
    let table = then_did number counts in
    leaves_then a table.between b (leaves_site a table.between table.done.rest) (gives_leave table.between b table.next)

called_leaves : (called : Option ℕ) (a b : Work) (number : ℕ) → UsesCalled called a b (Ok number) → LeavesAsBefore a b
called_leaves (Some (suc less)) a b number gives = gives_leave a b gives
called_leaves (Some zero) a b number table = table_leaves a b number table
called_leaves None a b number table = table_leaves a b number table

workers_leave : (settings : Settings) (parallel : Bool) (asked : ℕ) (a b : Work) (number : ℕ) → CountsWorkers settings parallel asked a b (Ok number) → LeavesAsBefore a b
workers_leave settings false asked a b number gives = gives_leave a b gives
workers_leave settings true (suc less) a b number gives = gives_leave a b gives
workers_leave settings true zero a b number calls =
    let called = then_did number calls in
    let told : StaysTold a.spawner.told called.between.spawner.told = goes_weaker a.spawner.told called.between.spawner.told (CallsSo settings called.value) (λ s t. ⊤) called.done.at.told (λ s t calls. tt) in
    leaves_then a called.between b (leaves_spawner a called.between called.done.rest told) (called_leaves called.value called.between b number called.next)

pub select_leaves : (settings : Settings) (options : RunOptions) (a b : Work) (selected : Selected) → Selects settings options a b (Ok selected) → LeavesAsBefore a b
select_leaves settings options a b selected selects =
    let listed = then_did selected selects in
    let further = then_did selected listed.next in
    let failing = then_did selected further.next in
    let counted = then_did selected failing.next in
    let listing = then_did selected counted.next in
    let chosen = then_did selected listing.next in
    let to_listed = leaves_site a listed.between listed.done.rest in
    let to_further = leaves_site listed.between further.between further.done.rest in
    let to_failing = leaves_folder further.between failing.between failing.done.rest (perhaps_same FindsFailing (when options.failing) further.between.folder failing.between.folder (Ok failing.value) (λ answer found. found.same) failing.done.at) in
    let to_counted = workers_leave settings options.parallel options.concurrency failing.between counted.between counted.value counted.done in
    let to_listing = leaves_spawner counted.between listing.between listing.done.rest (listing_told settings _ counted.between.spawner listing.between.spawner listing.value listing.done.at) in
    let to_end = leaves_same listing.between b (chosen.next.same ∙ chosen.done.same) in
    leaves_then a listed.between b to_listed (leaves_then listed.between further.between b to_further (leaves_then further.between failing.between b to_failing (leaves_then failing.between counted.between b to_counted (leaves_then counted.between listing.between b to_listing to_end))))

pub plan_leaves : (settings : Settings) (asked : Bool) (selected : Selected) (a b : Work) (plan : Planned) → Plans settings asked selected a b (Ok plan) → LeavesAsBefore a b
plan_leaves settings asked selected a b plan plans =
    let timed = then_did plan plans in
    let divided = then_did plan timed.next in
    let named = then_did plan divided.next in
    let made = then_did plan named.next in
    let handed = then_did plan made.next in
    let to_timed = leaves_folder a timed.between timed.done.rest (perhaps_same FindsTimes (when (wants_times selected)) a.folder timed.between.folder (Ok timed.value) (λ answer found. found.same) timed.done.at) in
    leaves_then a timed.between b to_timed (leaves_same timed.between b (handed.next.same ∙ handed.done.same ∙ made.done.same ∙ named.done.same ∙ divided.done.same))

-- ---- the workers

pub record Worked (partial : Bool) (number : ℕ) (plan : Planned) (rows : List Row) (a b : Work) : Type 0 where
  pub outputs : List Output
  pub started : Goes a.spawner.told b.spawner.told (StartsAll plan.jobs outputs)
  pub events : List Event
  pub are_events : All IsEvent events
  pub fit : All Fits events
  pub of_lanes : All (IsOfLaneBelow (length plan.jobs)) events
  pub of_workers : IfSome a.spawner.told (λ _. AreOfOutputs events plan.asked outputs)
  pub rows_are : rows ≡ rows_of events
  pub kept : Goes a.folder.told b.folder.told (KeepsRunAndCaches number (run_of partial (run_bytes events)))
  pub passes : IfSome a.folder.told IsCalm → Goes a.folder.told b.folder.told (PassesAll number (run_of partial (run_bytes events)))
  input : b.input ≡ a.input
  pub out : b.out.told ≡ a.out.told

pub work_did : (partial : Bool) (number : ℕ) (plan : Planned) (a b : Work) (rows : List Row) → length plan.jobs ≤ 64 → Works partial number plan a b (Ok rows) → Worked partial number plan rows a b
work_did partial number plan a b rows few works =
    let begun = then_did rows works in
    let started = then_did rows begun.next in
    let recorded = then_did rows started.next in
    let kept = then_did rows recorded.next in
    let refreshed = then_did rows kept.next in
    let gives = refreshed.next in
    let adds : AddsMerge started.value started.between.folder.told recorded.between.folder.told = recorded.done.at.recorded.merge in
    let begin : begun.between.spawner.told ≡ a.spawner.told = λ i. (begun.done.rest i).spawner.told in
    let ended : started.between.spawner.told ≡ b.spawner.told = sym ((λ i. (gives.same i).spawner.told) ∙ (λ i. (refreshed.done.rest i).spawner.told) ∙ (λ i. (kept.done.rest i).spawner.told) ∙ (λ i. (recorded.done.rest i).spawner.told)) in
    let told = have_outputs plan.jobs plan.asked started.value begun.between.spawner.told started.between.spawner.told started.done.at.started in
    let run : List ℕ = run_bytes adds.events in
    let grows : Goes begun.between.folder.told recorded.between.folder.told (Grown run) = goes_ends (Grown run) (λ i. (started.done.rest i).folder.told) refl adds.added in
    let written = goes_writes a.folder.told begun.between.folder.told recorded.between.folder.told run begun.done.at.begun grows in
    record {
      outputs = told.outputs;
      started = goes_ends (StartsAll plan.jobs told.outputs) begin ended told.all;
      events = adds.events;
      are_events = adds.are_events;
      fit = adds.fit;
      of_lanes = subst (λ (n : ℕ). All (IsOfLaneBelow n) adds.events) started.done.at.count adds.of_lanes;
      of_workers = subst (λ (o : Option Spawning). IfSome o (λ _. AreOfOutputs adds.events plan.asked told.outputs)) begin (of_outputs plan.jobs plan.asked started.value told.outputs begun.between.spawner.told started.between.folder.told recorded.between.folder.told adds few told.count told.rests_are told.are_outputs told.texts);
      rows_are = same_value gives.answer ∙ rows_of_written run adds.events recorded.value (packets_bytes adds.events adds.are_events) adds.are_events adds.fit refl recorded.done.at.recorded.rows_are;
      kept = goes_ends (KeepsRunAndCaches number (run_of partial run)) refl (λ i. (sym gives.same i).folder.told)
          (goes_cached number (run_of partial run) recorded.value a.folder.told kept.between.folder refreshed.between.folder refreshed.done.at recorded.done.at.recorded.rows_are
          (run_kept number partial run a.folder.told recorded.between.folder.told kept.between.folder.told written kept.done.at.kept));
      passes = λ calm. keeps_moves partial number run recorded.value (Gives recorded.value) (λ x y r ends i. (ends.same i).folder) a.folder.told recorded.done.at.recorded.rows_are calm recorded.between b (Ok rows) written recorded.next;
      input = (λ i. (gives.same i).input) ∙ (λ i. (refreshed.done.rest i).input) ∙ (λ i. (kept.done.rest i).input) ∙ (λ i. (recorded.done.rest i).input) ∙ (λ i. (started.done.rest i).input) ∙ (λ i. (begun.done.rest i).input);
      out = (λ i. (gives.same i).out.told) ∙ (λ i. (refreshed.done.rest i).out.told) ∙ (λ i. (kept.done.rest i).out.told) ∙ (λ i. (recorded.done.rest i).out.told) ∙ (λ i. (started.done.rest i).out.told) ∙ (λ i. (begun.done.rest i).out.told);
    }

-- ---- the report

pub record ToldSo (format : FormatKind) (number : ℕ) (filter_tags : Ids) (rows : List Row) (a b : Work) (v : Verdict) : Type 0 where
  pub report : Report
  pub says : IsReport format number filter_tags rows report
  pub folder : b.folder.told ≡ a.folder.told
  pub spawner : b.spawner.told ≡ a.spawner.told
  input : b.input ≡ a.input
  pub printed : Appends a.out.told b.out.told report.text
  verdict : v ≡ report.verdict

pub tell_did : (format : FormatKind) (number : ℕ) (filter_tags : Ids) (rows : List Row) (a b : Work) (v : Verdict) → TellsRun format number filter_tags rows a b (Ok v) → ToldSo format number filter_tags rows a b v
tell_did format number filter_tags rows a b v tells =
    let made = then_did v tells in
    let printed = then_did v made.next in
    let gives = printed.next in
    record {
      report = made.value;
      says = made.done.says.told;
      folder = (λ i. (gives.same i).folder.told) ∙ (λ i. (printed.done.rest i).folder.told) ∙ (λ i. (made.done.same i).folder.told);
      spawner = (λ i. (gives.same i).spawner.told) ∙ (λ i. (printed.done.rest i).spawner.told) ∙ (λ i. (made.done.same i).spawner.told);
      input = (λ i. (gives.same i).input) ∙ (λ i. (printed.done.rest i).input) ∙ (λ i. (made.done.same i).input);
      printed = appended {z = printed.between.out.told} (λ i. (made.done.same i).out.told) (λ i. (sym gives.same i).out.told) refl printed.done.at.whole;
      verdict = same_verdict gives.answer;
    }

-- what is so of the text of the report, where the folder is told, is so of the report of the run's rows
pub rows_told : (partial : Bool) (format : FormatKind) (number : ℕ) (tags : Ids) (events : List Event) (report : Report) (P : List ℕ → Type 0) (a b : Option Folder) → Goes a b (KeepsRunAndCaches number (run_of partial (run_bytes events))) → IsReport format number tags (rows_of events) report → IfSome a (λ _. P report.text)
    → IfSome a (λ s. (runs : List Run) → Shows s.disk.published runs → P (report_for format (rows_of events) (length runs) tags))
rows_told partial format number tags events report P None b kept says told = tt
rows_told partial format number tags events report P (Some s) None kept says told = absurd kept
rows_told partial format number tags events report P (Some s) (Some t) kept says told = λ runs shows.
    subst (λ n. P (report_for format (rows_of events) n tags)) (kept.reads.beside.counts runs shows) (subst P says.text told)

-- ---- the run theorem

pub seen_same : {S : Type 0} (a b : Seen S) → b.told ≡ a.told → b.faults ≡ a.faults → b ≡ a
seen_same a b told faults = λ i. record { told = told i; faults = faults i }

pub run_did : (options : RunOptions) (a b : Work) (v : Verdict) → RunsSuite options a b (Ok v) → RunsAll options a b (verdict_exit_status v)
run_did options a b v runs =
    let conf = then_did v runs in
    let found = then_did v conf.next in
    let took = then_did v found.next in
    let compiled = then_did v took.next in
    let selected = then_did v compiled.next in
    let planned = then_did v selected.next in
    let worked = then_did v planned.next in
    let partial : Bool = is_partial options in
    let kinds : List Bool = kinds_of found.value in
    let begin : Work = compiled.between in
    let few : length planned.value.jobs ≤ 64 = few_jobs conf.value options.find_causes selected.value selected.between planned.between planned.value (selected_range conf.value options begin selected.between selected.value selected.done) planned.done in
    let before = leaves_then begin selected.between planned.between (select_leaves conf.value options begin selected.between selected.value selected.done) (plan_leaves conf.value options.find_causes selected.value selected.between planned.between planned.value planned.done) in
    let work = work_did partial (length kinds) planned.value planned.between worked.between worked.value few worked.done in
    let told = then_did v worked.next in
    let finds = then_did v told.next in
    let gives = finds.next in
    let here : Work = told.between in
    let there : Work = finds.between in
    let tell = tell_did options.format (length kinds) conf.value.filter_tags worked.value worked.between here told.value told.done in
    let found_folder : b.folder.told ≡ here.folder.told = (λ i. (gives.same i).folder.told) ∙ causes_still options.find_causes conf.value (length kinds) worked.value here there (Ok finds.value) finds.done in
    let run : Run = run_of partial (run_bytes work.events) in
    let calm : begin ≡ found.between = compiled.done.same ∙ took.done.same in
    let site : conf.between.site ≡ a.site = seen_same a.site conf.between.site conf.done.at.same (conf.done.at.count.stands refl) in
    let first : conf.between ≡ a = conf.done.rest ∙ ap (work_site.put a) site in
    let opened : begin ≡ work_folder.put a begin.folder = calm ∙ found.done.rest ∙ (λ i. work_folder.put (first i) found.between.folder) ∙ (λ i. work_folder.put a (sym calm i).folder) in
    let quiet : Goes a.folder.told begin.folder.told KeepsReads = goes_ends KeepsReads (λ i. (first i).folder.told) (λ i. (sym calm i).folder.told) (open_quiet conf.between found.between (Ok found.value) found.done.at) in
    let kept : Goes begin.folder.told worked.between.folder.told (KeepsRunAndCaches (length kinds) run) = goes_ends (KeepsRunAndCaches (length kinds) run) before.folder refl work.kept in
    let keeps : Goes begin.folder.told b.folder.told (KeepsRunAndCaches (length kinds) run) = goes_ends (KeepsRunAndCaches (length kinds) run) refl (sym (found_folder ∙ tell.folder)) kept in
    let stored : Goes a.folder.told b.folder.told (KeepsRunAndCaches (length kinds) run) = kept_through (length kinds) run a.folder.told begin.folder.told b.folder.told quiet keeps in
    let at_rest : IfSome begin.folder.told IsCalm = subst (λ (w : Work). IfSome w.folder.told IsCalm) (sym calm) (surveyed_calm kinds conf.between.folder.told found.between.folder.told found.done.at.found) in
    let says : IsReport options.format (length kinds) conf.value.filter_tags (rows_of work.events) tell.report = subst (λ (l : List Row). IsReport options.format (length kinds) conf.value.filter_tags l tell.report) work.rows_are tell.says in
    let workers_here = told_before begin.spawner.told planned.between.spawner.told (λ s t. ⊤) (AreOfOutputs work.events planned.value.asked work.outputs) before.told work.of_workers in
    let workers : IfSome a.spawner.told (λ _. AreOfOutputs work.events planned.value.asked work.outputs) = subst (λ (o : Option Spawning). IfSome o (λ _. AreOfOutputs work.events planned.value.asked work.outputs)) (λ i. (opened i).spawner.told) workers_here in
    let out : worked.between.out.told ≡ a.out.told = work.out ∙ before.out ∙ (λ i. (opened i).out.told) in
    let tells : Goes a.folder.told here.folder.told (λ s t. TellsEvents (length kinds) work.events t) =
    goes_ends (λ s t. TellsEvents (length kinds) work.events t) refl (sym tell.folder) (tells_behind partial (length kinds) work.events a.folder.told begin.folder.told worked.between.folder.told KeepsReads work.are_events work.fit quiet at_rest kept) in
    let causes = causes_did conf.value (length kinds) work.events here there finds.value options.find_causes worked.value a.folder.told work.rows_are tells finds.done in
    let searched : SearchesAll options.find_causes conf.value work.events causes.lines a.folder.told worked.between.spawner.told b.spawner.told =
    subst (λ (o : Option Spawning). SearchesAll options.find_causes conf.value work.events causes.lines a.folder.told o b.spawner.told) tell.spawner
    (subst (λ (o : Option Spawning). SearchesAll options.find_causes conf.value work.events causes.lines a.folder.told here.spawner.told o) (sym (λ i. (gives.same i).spawner.told)) causes.found) in
    let report_out : Appends a.out.told here.out.told tell.report.text = subst (λ (o : Option (List ℕ)). Appends o here.out.told tell.report.text) out tell.printed in
    let all_out : IfSome a.folder.told (λ _. Appends a.out.told b.out.told (tell.report.text ++ causes.lines)) =
    where_told a.folder.told (Appends here.out.told there.out.told causes.lines) (Appends a.out.told b.out.told (tell.report.text ++ causes.lines))
    (λ lines_out. subst (λ (o : Option (List ℕ)). Appends a.out.told o (tell.report.text ++ causes.lines)) (sym (λ i. (gives.same i).out.told)) (Appends-trans a.out.told here.out.told there.out.told tell.report.text causes.lines report_out lines_out)) causes.printed in
    record {
      workers = record {
        plan = planned.value;
        planning = planned.between;
        planned = record {
          settings = conf.value;
          conf = conf.done.at.conf;
          opened = begin;
          opened_is = opened;
          opened_files = goes_weaker a.folder.told begin.folder.told KeepsReads KeepsFiles quiet (λ s t rests. rests.files);
          selected = selected.value;
          selecting = selected.between;
          selects = selected.done;
          plans = planned.done;
          few = few;
        };
        outputs = work.outputs;
        worked = worked.between.spawner.told;
        started = work.started;
        events = work.events;
        are_events = work.are_events;
        fit = work.fit;
        of_lanes = work.of_lanes;
        merged = where_told a.spawner.told (AreOfOutputs work.events planned.value.asked work.outputs) _ (λ are. are.merged) workers;
        in_turn = where_told a.spawner.told (AreOfOutputs work.events planned.value.asked work.outputs) _ (λ are. are.in_turn) workers;
        lines = causes.lines;
        probed = all_some options.find_causes conf.value work.events causes.lines a.folder.told worked.between.spawner.told b.spawner.told searched;
      };
      cached = fresh_through (length kinds) run a.folder.told begin.folder.told b.folder.told quiet at_rest keeps;
      stored = goes_weaker a.folder.told b.folder.told (KeepsRunAndCaches (length kinds) run) (AddsRun partial work.events) stored (adds_run partial (length kinds) work.events);
      printed = rows_told partial options.format (length kinds) conf.value.filter_tags work.events tell.report (λ text. Appends a.out.told b.out.told (text ++ causes.lines)) a.folder.told b.folder.told stored says all_out;
      found = searched;
      none_lost = where_told a.spawner.told (AreOfOutputs work.events planned.value.asked work.outputs) _ (λ are. none_lost work.events planned.value.asked work.outputs (short_ids conf.value options.find_causes selected.value selected.between planned.between planned.value planned.done) are.merged) workers;
      status = ap verdict_exit_status (same_verdict gives.answer ∙ tell.verdict ∙ says.verdict) ∙ status_is (rows_of work.events);
      input = (λ i. (gives.same i).input) ∙ causes_input options.find_causes conf.value (length kinds) worked.value here there (Ok finds.value) finds.done ∙ tell.input ∙ work.input ∙ before.input ∙ (λ i. (opened i).input);
    }
