-- `run` and `list-tests` do not give up without a cause.
use Rattle.suite_run.specs.NoneLost.{AreAllShort}
use Rattle.command_steps.specs.declared.work_plan.LongId.{LongId}
use Rattle.std.proofs.Common.{◌≡◌, ◌⊎◌, inl, inr, ℕ, zero, suc, ◌+◌, ◌<◌, ◌≤◌, pos, Bool, true, false, not, Option, None, Some, IfSome, IsSomeAnd, IsOk, All, Result, Ok, Err, List, [], ◌∷◌, ◌++◌, length, refl, sym, ap, subst, ◌∙◌, arith}
use Rattle.std.specs.Bool.{⊤}
use Rattle.std.specs.FinMap as fin
use Rattle.std.specs.Option.{unwrap_or}
use Rattle.edge_io.specs.Children.{Output}
use Rattle.edge_io.specs.Disk.{Files, Folder}
use Rattle.edge_io.specs.Seen.{Seen}
use Rattle.edge_io.specs.Spawners.{Spawning}
use Rattle.edge_io.specs.Steps.{Goes, Stays}
use Rattle.edge_io.specs.declared.child.Finish.TheVariants.{Exit}
use Rattle.edge_io.specs.declared.job.Job.{Job}
use Rattle.edge_io.proofs.Going.{goes_weaker}
use Rattle.outcome_fold.specs.Rows.{rows_of}
use Rattle.outcome_fold.specs.declared.row.Row.{Row}
use Rattle.packet_codec.specs.declared.event.Event.{Event}
use Rattle.run_shelf.specs.Holds.{kinds_of}
use Rattle.run_shelf.specs.Repository.{most_runs, run_of}
use Rattle.partition_times.specs.Patterns.{IsPattern}
use Rattle.partition_times.specs.Shares.{Times as KnownTimes}
use Rattle.suite_causes.specs.Searching.{CanHandIds, probe_job}
use Rattle.suite_plan.specs.Calling.{TellsNumber, TellsNone, StartsCounting, HasCallCause, CallsOut, called_number}
use Rattle.suite_plan.specs.Children.{IsBroken}
use Rattle.suite_plan.specs.Choosing.{Ids}
use Rattle.suite_plan.specs.LaneJobs.{job_before, jobs_from, lane_jobs}
use Rattle.suite_plan.specs.LoadList.{IsLoadList, HasListCause, ReadsLoadList}
use Rattle.suite_plan.specs.Processors.{IsInRange, HasTableCause, CountsProcessors, table_name}
use Rattle.suite_plan.specs.Sharing.{ids_of_shard, shares_for}
use Rattle.suite_plan.specs.Texts.{most_text}
use Rattle.suite_plan.specs.declared.count_command.CallRefusal.{CallRefusal}
use Rattle.suite_plan.specs.declared.count_command.CallRefusal.TheVariants as call
use Rattle.suite_plan.specs.declared.load_list.ListRefusal.{ListRefusal}
use Rattle.suite_plan.specs.declared.load_list.ListRefusal.TheVariants as load_list
use Rattle.suite_plan.specs.declared.processors.TableRefusal.{TableRefusal}
use Rattle.suite_plan.specs.declared.processors.TableRefusal.TheVariants as table
use Rattle.suite_run.specs.declared.lane_recorder.LanesRefusal.{LanesRefusal}
use Rattle.suite_run.specs.declared.lane_recorder.LanesRefusal.TheVariants as lanes
use Rattle.suite_run.specs.declared.lane_starter.StartRefusal.{StartRefusal}
use Rattle.suite_run.specs.declared.lane_starter.StartRefusal.TheVariants as start
use Rattle.testr_conf.specs.Jobs.{count_job_of, list_job_of, run_job_of}
use Rattle.testr_conf.specs.ListedIds.{ids_in}
use Rattle.testr_conf.specs.Settings.{Settings}
use Rattle.testr_conf.specs.declared.fault.JobFault.{JobFault}
use Rattle.testr_conf.specs.declared.fault.JobFault.TheVariants as job_fault
use Rattle.testr_conf.specs.declared.ids.IdsFault.{IdsFault}
use Rattle.testr_conf.specs.declared.ids.IdsFault.TheVariants.{NotText}
use Rattle.command_steps.specs.Outside.{Work}
use Rattle.command_steps.specs.Perhaps.{when, Perhaps, not_asked, did, refused}
use Rattle.testr_commands.specs.RunSuite.{TellsRun, TellsAndFinds, RunsBy, RunsSuite}
use Rattle.command_steps.specs.Working.{Works}
use Rattle.testr_commands.specs.Searches.{ProbesEnd, suspects_in, UseNoBroken}
use Rattle.testr_commands.specs.Prospects.{MayCount, MaySelect, MayPlan}
use Rattle.command_steps.specs.Runs.{HasRuns, KeepsFiles, run_bytes}
use Rattle.command_steps.specs.Selecting.{TimesById, shard_times, worker_times, further_refusal, UsesCalled, UsesAsked, CountsWorkers, needs_listing, Selects, shares_of_ids, MakesJobs, HandsIds, Plans, ids_of_shares, Planned, NamesIds}
use Rattle.command_steps.specs.Steps.{Step, stops, goes_on}
use Rattle.testr_commands.specs.SuiteProgram.{calls_by, worker_count_calls, EndsWell, CountIsTold, CallsOutNone, CanHand, CanRun}
use Rattle.command_steps.specs.SuiteTexts.{list_exit_status, table_exit_status, job_exit_status, start_exit_status, lanes_exit_status}
use Rattle.testr_words.specs.Suites.{RunOptions, is_partial}
use Rattle.command_steps.specs.Told.{tell_exit_status}
use Rattle.command_steps.specs.declared.answer.Refusal.{Refusal}
use Rattle.command_steps.specs.declared.answer.Refusal.TheVariants as refusal
use Rattle.command_steps.specs.declared.test_selection.Selected.{Selected}
use Rattle.command_steps.specs.declared.question_answers.TellFault.{TellFault}
use Rattle.command_steps.specs.declared.question_answers.TellFault.TheVariants as tell_fault
use Rattle.testr_commands.proofs.FolderLemmas.{takes_in_repository, not_full}
use Rattle.testr_commands.proofs.ChainLemmas.{then_did, gives_not}
use Rattle.testr_commands.specs.Further.{CanReadFurther}
use Rattle.testr_commands.proofs.FurtherLaws.{further_told, further_never}
use Rattle.testr_commands.proofs.FindLemmas.{TellsEvents, tells_behind}
use Rattle.suite_plan.proofs.ShardLemmas.{no_part}
use Rattle.testr_commands.proofs.LeftIds.{no_shares}
use Rattle.testr_commands.proofs.ProbeCauses.{causes_never, probes_behind}
use Rattle.command_steps.proofs.Resting.{KeepsReads, goes_ends}
use Rattle.command_steps.proofs.SoundLemmas.{IsCalm, KeepsRunAndCaches, surveyed_calm}
use Rattle.testr_commands.proofs.StepLaws.{open_quiet}
use Rattle.testr_commands.proofs.SuiteDone.{select_leaves, plan_leaves, leaves_then, work_did, tell_did}
use Rattle.testr_commands.proofs.SuiteJobs.{selected_range, few_jobs}
use Rattle.testr_commands.proofs.CauseLaws.{open_never, runs_are}
use Rattle.testr_commands.proofs.SuiteCauses.{NoCause, same_cause, moved, from_both, from_told, not_too_much, same_text, conf_never, same_settings, pattern_never, ends_behind, broken_never, listing_never}
use Rattle.testr_words.specs.declared.format.FormatKind.{FormatKind}

-- ---- refusals that have no such cause

tell_never : (fault : TellFault) → tell_exit_status fault ≡ 3 → ⊥
tell_never tell_fault.Shelf three = omega arith
tell_never tell_fault.NoMemory three = omega arith

start_never : (fault : StartRefusal) → start_exit_status fault ≡ 3 → ⊥
start_never start.Spawn three = omega arith
start_never start.NoMemory three = omega arith

lanes_never : (fault : LanesRefusal) → lanes_exit_status fault ≡ 3 → ⊥
lanes_never (lanes.Shelf which) three = omega arith
lanes_never lanes.NoMemory three = omega arith

-- ---- a step that is done where it is asked for

module _ {W X A E : Type 0} {asked : Option X} {step : X → Step W A E} (a b : W) where
  perhaps_asked : (fault : E) → Perhaps asked step a b (Err fault) → (x : X) × (asked ≡ Some x) × step x a b (Err fault)
  perhaps_asked fault (not_asked none is same) = cc
  perhaps_asked fault (did x value is_asked is done) = cc
  perhaps_asked fault (refused x why is_asked is done) =
      let same : why ≡ fault = cc in
      (x, is_asked, subst (λ (e : E). step x a b (Err e)) same done)

asked_when : (asked : Bool) (x : Unit {0}) → when asked ≡ Some x → asked ≡ true
asked_when false x is = cc
asked_when true x is = refl

-- ---- the list of ids

list_cause : (name : List ℕ) (ids : Ids) (fault : ListRefusal) (files : Files) → IsLoadList name ids files → HasListCause name fault files → list_exit_status fault ≡ 3 → ⊥
list_cause name ids load_list.Site files listed cause three = omega arith
list_cause name ids (load_list.TooLong given) files listed cause three = not_too_much (files name) listed.text listed.has.there listed.has.short cause
list_cause name ids (load_list.Absent given) files listed cause three =
    let both : Some listed.text ≡ None = sym listed.has.there ∙ cause in
    cc
list_cause name ids (load_list.NotId given number) files listed cause three =
    let same : listed.text ≡ cause.text = same_text (files name) listed.text cause.text listed.has.there cause.has.there in
    let both : ◌≡◌ {A = Result Ids IdsFault} (Ok ids) (Err (NotText number)) = sym listed.says ∙ ap ids_in same ∙ cause.says in
    cc
list_cause name ids load_list.NoMemory files listed cause three = omega arith

abbrev HasList : List ℕ → Files → Type 0
HasList name files = (ids : Ids) × IsLoadList name ids files

pub load_list_never : (name : List ℕ) (a b : Seen Files) (fault : ListRefusal) → IsSomeAnd a.told (HasList name) → ReadsLoadList name a b (Err fault) → NoCause (refusal.LoadList fault)
load_list_never name a b fault there reads = (
  (λ three. from_told a.told (HasList name) (HasListCause name fault) there reads.refused (λ files listed cause. list_cause name listed.0 fault files listed.1 cause three)),
  (λ child. child),
)

asked_list : (asked : Option (List ℕ)) (files : Option Files) (name : List ℕ) → asked ≡ Some name → IfSome asked (λ n. IsSomeAnd files (HasList n)) → IsSomeAnd files (HasList name)
asked_list None files name is there = cc
asked_list (Some other) files name is there =
    let same : other ≡ name = cc in
    subst (λ (n : List ℕ). IsSomeAnd files (HasList n)) same there

-- the files stay
list_stays : (asked : Option (List ℕ)) (a b : Seen Files) (listed : Option Ids) → Perhaps asked ReadsLoadList a b (Ok listed) → b.told ≡ a.told
list_stays asked a b listed (not_asked none is same) = λ i. (same i).told
list_stays asked a b listed (did name ids is_asked is step) = step.same
list_stays asked a b listed (refused name fault is_asked is step) = cc

-- ---- the table of processors

short_table : (table : Option (List ℕ)) → IfSome table (λ text. length text ≤ most_text) → IsSomeAnd table (λ text. most_text < length text) → ⊥
short_table None short long = long
short_table (Some text) short long = omega (arith, short, long)

abbrev HasShortTable : Files → Type 0
HasShortTable files = IfSome (files table_name) (λ text. length text ≤ most_text)

table_cause : (fault : TableRefusal) (files : Files) → HasShortTable files → HasTableCause fault files → table_exit_status fault ≡ 3 → ⊥
table_cause table.Site files short cause three = omega arith
table_cause table.TooLong files short cause three = short_table (files table_name) short cause
table_cause table.NoMemory files short cause three = omega arith

table_never : (a b : Seen Files) (fault : TableRefusal) → IsSomeAnd a.told HasShortTable → CountsProcessors a b (Err fault) → NoCause (refusal.Table fault)
table_never a b fault short counts = (
  (λ three. from_told a.told HasShortTable (HasTableCause fault) short counts.refused (λ files kept cause. table_cause fault files kept cause three)),
  (λ child. child),
)

-- ---- the number that a child tells

pub no_number : (number : ℕ) (said : List ℕ) (output : Output) → TellsNumber number output → TellsNone said output → ⊥
no_number number said output tells none = by none.none
  where
    by : (none.status ≡ pos 0 → ⊥) ⊎ (called_number output.bytes ≡ None) → ⊥
    by (inl other) =
        let both : Exit none.status ≡ Exit (pos 0) = sym none.ended ∙ tells.ended in
        other cc
    by (inr nothing) =
        let both : Some number ≡ None = sym tells.number_is ∙ nothing in
        cc

-- how many children are asked
abbrev calls_in : Settings → ℕ
calls_in settings = calls_by true zero (count_job_of settings)

-- the child that is asked tells a number
counting_tells : (settings : Settings) (Meets : Output → Type 0) (s t : Spawning) → CountIsTold (calls_in settings) s → (starts : StartsCounting settings Meets s t) → (number : ℕ) × TellsNumber number starts.output
counting_tells settings Meets s t tells starts =
    let one : CountIsTold 1 s = subst (λ (j : Option Job). CountIsTold (calls_by true zero j) s) starts.job_is tells in
    one starts.output t.outputs starts.started.first

call_cause : (settings : Settings) (fault : CallRefusal) (s t : Spawning) → CountIsTold (calls_in settings) s → HasCallCause settings fault s t → NoCause (refusal.Call fault)
call_cause settings call.Spawn s t tells cause = ((λ three. omega arith), (λ child. child))
call_cause settings call.Child s t tells cause =
    let told = counting_tells settings (λ output. IsBroken output.finish) s t tells cause in
    ((λ three. omega arith), (λ child. broken_never cause.output told.1.ended cause.meets))
call_cause settings (call.NoNumber said) s t tells cause =
    let told = counting_tells settings (TellsNone said) s t tells cause in
    ((λ three. no_number told.0 said cause.output told.1 cause.meets), (λ child. child))
call_cause settings call.NoMemory s t tells cause = ((λ three. omega arith), (λ child. child))

call_never : (settings : Settings) (a b : Seen Spawning) (fault : CallRefusal) → IsSomeAnd a.told (CountIsTold (calls_in settings)) → CallsOut settings a b (Err fault) → NoCause (refusal.Call fault)
call_never settings a b fault tells calls = from_both a.told b.told (CountIsTold (calls_in settings)) (HasCallCause settings fault) tells calls.refused (λ s t told cause. call_cause settings fault s t told cause)

-- the child behind it is the first then
call_ends : (settings : Settings) (number : Option ℕ) (a b : Seen Spawning) → CallsOut settings a b (Ok number) → IsSomeAnd a.told (EndsWell (calls_in settings)) → IsSomeAnd b.told (EndsWell 0)
call_ends settings None a b calls ends =
    let none : IsSomeAnd a.told (EndsWell 0) = subst (λ (j : Option Job). IsSomeAnd a.told (EndsWell (calls_by true zero j))) (calls.jobless refl) ends in
    moved a.told b.told (EndsWell 0) (EndsWell 0) Stays none calls.told (λ s t well is. subst (EndsWell 0) (sym is) well)
call_ends settings (Some number) a b calls ends = moved a.told b.told (EndsWell (calls_in settings)) (EndsWell 0) (StartsCounting settings (TellsNumber number)) ends calls.told (λ s t well starts.
    let one : EndsWell 1 s = subst (λ (j : Option Job). EndsWell (calls_by true zero j) s) starts.job_is well in
    ends_behind 0 s t starts.job starts.output one starts.started)

-- ---- the number of workers

abbrev Tables : Work → Type 0
Tables w = IsSomeAnd w.site.told HasShortTable

called_never : (number : Option ℕ) (a b : Work) (r : Refusal) → UsesCalled number a b (Err r) → (unwrap_or number 0 ≡ 0 → Tables a) → NoCause r
called_never (Some (suc less)) a b r uses short = absurd (gives_not a b r uses)
called_never (Some zero) a b r (stops fault is step) short = same_cause (refusal.Table fault) r is (table_never a.site b.site fault (short refl) step.at)
called_never (Some zero) a b r (goes_on number m counted gives) short = absurd (gives_not m b r gives)
called_never None a b r (stops fault is step) short = same_cause (refusal.Table fault) r is (table_never a.site b.site fault (short refl) step.at)
called_never None a b r (goes_on number m counted gives) short = absurd (gives_not m b r gives)

-- what is told is told
is_told : (told : Option Spawning) (P : Spawning → Type 0) → IsSomeAnd told P → IsSomeAnd told (λ s. ⊤)
is_told None P has = has
is_told (Some s) P has = tt

-- a number that was not called out, or is 0
none_called : (settings : Settings) (number : Option ℕ) (a b : Seen Spawning) → CallsOut settings a b (Ok number) → IsSomeAnd a.told (CountIsTold (calls_in settings)) → unwrap_or number 0 ≡ 0 → IsSomeAnd a.told (CallsOutNone (count_job_of settings))
none_called settings None a b calls told none = subst (λ (j : Option Job). IsSomeAnd a.told (CallsOutNone j)) (sym (calls.jobless refl)) (is_told a.told (CountIsTold (calls_in settings)) told)
none_called settings (Some number) a b calls told none = by a.told b.told told calls.told
  where
    by : (x y : Option Spawning) → IsSomeAnd x (CountIsTold (calls_in settings)) → Goes x y (StartsCounting settings (TellsNumber number)) → IsSomeAnd x (CallsOutNone (count_job_of settings))
    by None y told starts = told
    by (Some s) None told starts = absurd starts
    by (Some s) (Some t) told starts = subst (λ (j : Option Job). CallsOutNone j s) (sym starts.job_is) (starts.output, t.outputs, starts.started.first, subst (λ (n : ℕ). TellsNumber n starts.output) none starts.meets)

-- the table is short where it is asked
abbrev CannotCount : Settings → (parallel : Bool) → (asked : ℕ) → Option Spawning → Option Files → Type 0
CannotCount settings parallel asked children site = parallel ≡ true → asked ≡ 0 → IsSomeAnd children (CallsOutNone (count_job_of settings)) → IsSomeAnd site HasShortTable

asked_never : (settings : Settings) (asked : ℕ) (a b : Work) (r : Refusal) → UsesAsked settings asked a b (Err r) → CannotCount settings true asked a.spawner.told a.site.told → IsSomeAnd a.spawner.told (CountIsTold (calls_by true asked (count_job_of settings))) → NoCause r
asked_never settings (suc less) a b r uses short tells = absurd (gives_not a b r uses)
asked_never settings zero a b r (stops fault is step) short tells = same_cause (refusal.Call fault) r is (call_never settings a.spawner b.spawner fault tells step.at)
asked_never settings zero a b r (goes_on number m called next) short tells =
    let site : a.site.told ≡ m.site.told = sym (λ i. (called.rest i).site.told) in
    let table : unwrap_or number 0 ≡ 0 → Tables m = λ none. subst (λ (o : Option Files). IsSomeAnd o HasShortTable) site (short refl refl (none_called settings number a.spawner m.spawner called.at tells none)) in
    called_never number m b r next table

workers_never : (settings : Settings) (parallel : Bool) (asked : ℕ) (a b : Work) (r : Refusal) → CountsWorkers settings parallel asked a b (Err r) → CannotCount settings parallel asked a.spawner.told a.site.told → IsSomeAnd a.spawner.told (CountIsTold (calls_by parallel asked (count_job_of settings))) → NoCause r
workers_never settings false asked a b r counts short tells = absurd (gives_not a b r counts)
workers_never settings true asked a b r counts short tells = asked_never settings asked a b r counts short tells

abbrev EndsAt : ℕ → Option Spawning → Type 0
EndsAt count told = IsSomeAnd told (EndsWell count)

called_stays : (number : Option ℕ) (a b : Work) (n : ℕ) → UsesCalled number a b (Ok n) → b.spawner.told ≡ a.spawner.told
called_stays (Some (suc less)) a b n uses = λ i. (uses.same i).spawner.told
called_stays (Some zero) a b n uses =
    let counted = then_did n uses in
    (λ i. (counted.next.same i).spawner.told) ∙ (λ i. (counted.done.rest i).spawner.told)
called_stays None a b n uses =
    let counted = then_did n uses in
    (λ i. (counted.next.same i).spawner.told) ∙ (λ i. (counted.done.rest i).spawner.told)

asked_ends : (settings : Settings) (asked : ℕ) (a b : Work) (n : ℕ) → UsesAsked settings asked a b (Ok n) → EndsAt (calls_by true asked (count_job_of settings)) a.spawner.told → EndsAt 0 b.spawner.told
asked_ends settings (suc less) a b n uses ends = subst (EndsAt 0) (sym (λ i. (uses.same i).spawner.told)) ends
asked_ends settings zero a b n uses ends =
    let called = then_did n uses in
    subst (EndsAt 0) (sym (called_stays called.value called.between b n called.next)) (call_ends settings called.value a.spawner called.between.spawner called.done.at ends)

workers_ends : (settings : Settings) (parallel : Bool) (asked : ℕ) (a b : Work) (n : ℕ) → CountsWorkers settings parallel asked a b (Ok n) → EndsAt (calls_by parallel asked (count_job_of settings)) a.spawner.told → EndsAt 0 b.spawner.told
workers_ends settings false asked a b n counts ends = subst (EndsAt 0) (sym (λ i. (counts.same i).spawner.told)) ends
workers_ends settings true asked a b n counts ends = asked_ends settings asked a b n counts ends

-- ---- which tests

-- what the steps behind the opening of the folder need of the files and the children
record CanSelect (options : RunOptions) (settings : Settings) (site : Option Files) (children : Option Spawning) : Type 0 where
  load_list : IfSome options.load_list (λ name. IsSomeAnd site (HasList name))
  lists : CanReadFurther options.wanted site
  table : CannotCount settings options.parallel options.concurrency children site
  count : IsSomeAnd children (CountIsTold (worker_count_calls options settings))
  job : (workers : ℕ) → MayCount settings options site children workers → needs_listing options workers ≡ true → IsOk (list_job_of settings)
  ends : (workers : ℕ) → MayCount settings options site children workers → needs_listing options workers ≡ true → EndsAt (worker_count_calls options settings) children

select_never : (settings : Settings) (options : RunOptions) (a b : Work) (r : Refusal) → Selects settings options a b (Err r) → CanSelect options settings a.site.told a.spawner.told → NoCause r
select_never settings options a b r (stops fault is step) can =
    let asked = perhaps_asked a.site b.site fault step.at in
    same_cause (refusal.LoadList fault) r is (load_list_never asked.0 a.site b.site fault (asked_list options.load_list a.site.told asked.0 asked.1 can.load_list) asked.2)
select_never settings options a b r (goes_on listed m read (stops fault is step)) can =
    let site : a.site.told ≡ m.site.told = sym (list_stays options.load_list a.site m.site listed read.at) in
    same_cause (further_refusal fault) r is (further_never options.wanted m.site b.site fault (subst (CanReadFurther options.wanted) site can.lists) step.at)
select_never settings options a b r (goes_on listed m read (goes_on further n more (stops fault is step))) can = same_cause (refusal.Tell fault) r is ((λ three. tell_never fault three), (λ child. child))
select_never settings options a b r (goes_on listed m read (goes_on further n more (goes_on failing m2 found next))) can =
    let site : a.site.told ≡ m2.site.told = sym ((λ i. (found.rest i).site.told) ∙ further_told options.wanted m.site n.site (Ok further) more.at ∙ list_stays options.load_list a.site m.site listed read.at) in
    let children : a.spawner.told ≡ m2.spawner.told = sym ((λ i. (found.rest i).spawner.told) ∙ (λ i. (more.rest i).spawner.told) ∙ (λ i. (read.rest i).spawner.told)) in
    let on_site : CannotCount settings options.parallel options.concurrency a.spawner.told m2.site.told = subst (CannotCount settings options.parallel options.concurrency a.spawner.told) site can.table in
    let short : CannotCount settings options.parallel options.concurrency m2.spawner.told m2.site.told = subst (λ (o : Option Spawning). CannotCount settings options.parallel options.concurrency o m2.site.told) children on_site in
    let tells : IsSomeAnd m2.spawner.told (CountIsTold (worker_count_calls options settings)) = subst (λ (o : Option Spawning). IsSomeAnd o (CountIsTold (worker_count_calls options settings))) children can.count in
    elim next [
      | stops fault is step ↦ same_cause fault r is (workers_never settings options.parallel options.concurrency m2 b fault step short tells)
      | goes_on workers m3 counted (stops fault is step) ↦
          let asked = perhaps_asked m3.spawner b.spawner fault step.at in
          let needs : needs_listing options workers ≡ true = asked_when (needs_listing options workers) asked.0 asked.1 in
          let may : MayCount settings options a.site.told a.spawner.told workers = record { start = m2; site_is = sym site; children_are = sym children; counted = m3; counts = counted } in
          let ends : EndsAt (worker_count_calls options settings) m2.spawner.told = subst (EndsAt (worker_count_calls options settings)) children (can.ends workers may needs) in
          same_cause (refusal.Listing fault) r is (listing_never settings m3.spawner b.spawner fault (can.job workers may needs) (workers_ends settings options.parallel options.concurrency m2 m3 workers counted ends) asked.2)
      | goes_on workers m3 counted (goes_on listing m4 asked (stops fault is step)) ↦ same_cause (refusal.Memory fault) r is ((λ three. omega arith), (λ child. child))
      | goes_on workers m3 counted (goes_on listing m4 asked (goes_on ids m5 chosen gives)) ↦ absurd (gives_not m5 b r gives)
    ]

-- ---- the jobs

-- ids can be handed to a worker of each lane
abbrev CanHandOver : Settings → Type 0
CanHandOver settings = (ids : Ids) (lane : ℕ) → IsOk (run_job_of settings (Some ids) lane)

before_ok : (first : Result Job JobFault) (later : Result (List Job) JobFault) (fault : JobFault) → IsOk first → (later ≡ Err fault → ⊥) → job_before first later ≡ Err fault → ⊥
before_ok (Err why) later fault ok never is = cc
before_ok (Ok job) (Err why) fault ok never is = never is
before_ok (Ok job) (Ok jobs) fault ok never is = cc

jobs_ok : (settings : Settings) (lane : ℕ) (shares : List Ids) (fault : JobFault) → CanHandOver settings → jobs_from settings lane shares ≡ Err fault → ⊥
jobs_ok settings lane [] fault handed is = cc
jobs_ok settings lane (share ∷ shares) fault handed is = before_ok (run_job_of settings (Some share) lane) (jobs_from settings (lane + 1) shares) fault (handed share lane) (jobs_ok settings (lane + 1) shares fault handed) is

-- where there is a share, ids can be handed to a worker
abbrev HandsShares : Settings → Option (List Ids) → Type 0
HandsShares settings shares = IfSome shares (λ list. (list ≡ [] → ⊥) → CanHandOver settings)

lanes_ok : (settings : Settings) (shares : Option (List Ids)) (fault : JobFault) → HandsShares settings shares → lane_jobs settings shares ≡ Err fault → ⊥
lanes_ok settings None fault handed is = cc
lanes_ok settings (Some []) fault handed is = cc
lanes_ok settings (Some (share ∷ shares)) fault handed is = jobs_ok settings 0 (share ∷ shares) fault (handed (λ none. cc)) is

job_never : (settings : Settings) (shares : Option (List Ids)) (fault : JobFault) → HandsShares settings shares → MakesJobs settings shares (Err fault) → NoCause (refusal.Job fault)
job_never settings shares fault handed makes = ((λ three. by makes.refused three), (λ child. child))
  where
    by : (lane_jobs settings shares ≡ Err fault) ⊎ (fault ≡ job_fault.NoMemory) → job_exit_status fault ≡ 3 → ⊥
    by (inl is) three = lanes_ok settings shares fault handed is
    by (inr is) three =
        let five : job_exit_status fault ≡ 5 = ap job_exit_status is in
        omega (arith, five, three)

-- a share has ids
handed_shares : (settings : Settings) (times : Option TimesById) (selected : Selected) → IsInRange selected.workers → IfSome selected.ids (CanHand settings) → HandsShares settings (shares_of_ids settings.group_regex times selected)
handed_shares settings times selected range handed = by selected.ids handed
  where
    known : KnownTimes
    known = fin.get (worker_times selected.times times)

    parting : KnownTimes
    parting = fin.get (shard_times selected.times)

    by : (ids : Option Ids) → IfSome ids (CanHand settings) → HandsShares settings (shares_of_ids settings.group_regex times (record { workers = selected.workers; ids = ids; shard = selected.shard; times = selected.times }))
    by None handed = tt
    by (Some ids) handed = λ some. handed (λ none.
        some (ap (λ (l : Ids). shares_for known settings.group_regex (ids_of_shard parting settings.group_regex selected.shard l) selected.workers) none
        ∙ ap (λ (l : Ids). shares_for known settings.group_regex l selected.workers) (no_part parting settings.group_regex selected.shard)
        ∙ no_shares known settings.group_regex selected.workers (omega (arith, range.0))))

-- ids can be handed to a probe, where that is asked
hands_never : (settings : Settings) (asked : Bool) (fault : JobFault) → (asked ≡ true → CanHandIds settings) → HandsIds asked settings (Err fault) → NoCause (refusal.Job fault)
hands_never settings asked fault can hands = ((λ three. by (probe_job settings []) (can hands.refused.0) hands.refused.1 three), (λ child. child))
  where
    by : (job : Result Job JobFault) → IsOk job → (job ≡ Err fault) ⊎ (fault ≡ job_fault.NoMemory) → job_exit_status fault ≡ 3 → ⊥
    by (Ok job) ok (inl is) three = cc
    by (Err other) ok (inl is) three = cc
    by job ok (inr is) three =
        let five : job_exit_status fault ≡ 5 = ap job_exit_status is in
        omega (arith, five, three)

-- no id is too long
long_never : (shares : Option (List Ids)) (fault : LongId) → AreAllShort (ids_of_shares shares) → NamesIds shares (Err fault) → NoCause (refusal.LongId fault)
long_never shares fault short names = absurd (names.refused short)

plan_never : (settings : Settings) (asked : Bool) (selected : Selected) (a b : Work) (r : Refusal) → Plans settings asked selected a b (Err r) → IsInRange selected.workers → IfSome selected.ids (CanHand settings) → ((times : Option TimesById) → AreAllShort (ids_of_shares (shares_of_ids settings.group_regex times selected))) → (asked ≡ true → CanHandIds settings) → NoCause r
plan_never settings asked selected a b r (stops fault is step) range handed short can = same_cause (refusal.Tell fault) r is ((λ three. tell_never fault three), (λ child. child))
plan_never settings asked selected a b r (goes_on times m found (stops fault is step)) range handed short can = same_cause (refusal.Memory fault) r is ((λ three. omega arith), (λ child. child))
plan_never settings asked selected a b r (goes_on times m found (goes_on shares m2 dealt (stops fault is step))) range handed short can =
    same_cause (refusal.LongId fault) r is (long_never shares fault (subst (λ (s : Option (List Ids)). AreAllShort (ids_of_shares s)) (sym dealt.says.shares) (short times)) step.says)
plan_never settings asked selected a b r (goes_on times m found (goes_on shares m2 dealt (goes_on _ n named (stops fault is step)))) range handed short can =
    same_cause (refusal.Job fault) r is (job_never settings shares fault (subst (HandsShares settings) (sym dealt.says.shares) (handed_shares settings times selected range handed)) step.says)
plan_never settings asked selected a b r (goes_on times m found (goes_on shares m2 dealt (goes_on _ n named (goes_on jobs m3 made (stops fault is step))))) range handed short can = same_cause (refusal.Job fault) r is (hands_never settings asked fault can step.says)
plan_never settings asked selected a b r (goes_on times m found (goes_on shares m2 dealt (goes_on _ n named (goes_on jobs m3 made (goes_on _ m4 hands gives))))) range handed short can = absurd (gives_not m4 b r gives)

-- ---- the workers, and what is told of the run

work_never : (partial : Bool) (number : ℕ) (plan : Planned) (a b : Work) (r : Refusal) → Works partial number plan a b (Err r) → NoCause r
work_never partial number plan a b r (stops fault is step) = same_cause (refusal.Keep fault) r is ((λ three. omega arith), (λ child. child))
work_never partial number plan a b r (goes_on _ m begun (stops fault is step)) = same_cause (refusal.Start fault) r is ((λ three. start_never fault three), (λ child. child))
work_never partial number plan a b r (goes_on _ m begun (goes_on rests m2 started (stops fault is step))) = same_cause (refusal.Lanes fault) r is ((λ three. lanes_never fault three), (λ child. child))
work_never partial number plan a b r (goes_on _ m begun (goes_on rests m2 started (goes_on _ m3 recorded (stops fault is step)))) = same_cause (refusal.Keep fault) r is ((λ three. omega arith), (λ child. child))
work_never partial number plan a b r (goes_on _ m begun (goes_on rests m2 started (goes_on _ m3 recorded (goes_on _ m4 kept (stops fault is step))))) = same_cause (refusal.Refresh fault) r is ((λ three. tell_never fault three), (λ child. child))
work_never partial number plan a b r (goes_on _ m begun (goes_on rests m2 started (goes_on _ m3 recorded (goes_on _ m4 kept (goes_on _ m5 refreshed gives))))) = absurd (gives_not m5 b r gives)

told_never : (format : FormatKind) (number : ℕ) (tags : Ids) (rows : List Row) (a b : Work) (r : Refusal) → TellsRun format number tags rows a b (Err r) → NoCause r
told_never format number tags rows a b r (stops fault is step) = same_cause (refusal.Report fault) r is ((λ three. omega arith), (λ child. child))
told_never format number tags rows a b r (goes_on report m found (stops fault is step)) = same_cause (refusal.Print fault) r is ((λ three. omega arith), (λ child. child))
told_never format number tags rows a b r (goes_on report m found (goes_on _ m2 printed gives)) = absurd (gives_not m2 b r gives)

-- ---- `run`

-- no child is broken that probes use, for each plan that may be made
abbrev ProbesMayEnd : RunOptions → Settings → Work → Type 0
ProbesMayEnd options settings w = (plan : Planned) (planning : Work) → MayPlan settings options w plan planning → IfSome planning.spawner.told (ProbesEnd plan)

-- what the steps behind the configuration need
record CanRunBy (options : RunOptions) (settings : Settings) (w : Work) : Type 0 where
  free : IsSomeAnd w.folder.told (λ s. (number : ℕ) × (number < most_runs) × HasRuns number s)
  good : All IsPattern (options.wanted.patterns ++ options.wanted.excluded)
  good_regex : IfSome settings.group_regex IsPattern
  select : CanSelect options settings w.site.told w.spawner.told
  handed : (selected : Selected) → MaySelect settings options w selected → IfSome selected.ids (CanHand settings)
  named : (times : Option TimesById) (selected : Selected) → MaySelect settings options w selected → AreAllShort (ids_of_shares (shares_of_ids settings.group_regex times selected))
  hands_ids : options.find_causes ≡ true → CanHandIds settings
  probes : options.find_causes ≡ true → ProbesMayEnd options settings w

-- what is told of the run, and then the search for causes
finds_never : (format : FormatKind) (settings : Settings) (number : ℕ) (events : List Event) (asked : Bool) (rows : List Row) (folder : Option Folder) (a b : Work) (r : Refusal) → rows ≡ rows_of events → IsSomeAnd folder (λ s. Unit {0}) → Goes folder a.folder.told (λ s t. TellsEvents number events t)
    → (asked ≡ true → IsSomeAnd a.spawner.told (λ s. UseNoBroken events (suspects_in events) s.outputs)) → TellsAndFinds format asked settings number rows a b (Err r) → NoCause r
finds_never format settings number events asked rows folder a b r rows_are some tells uses (stops fault is step) = same_cause fault r is (told_never format number settings.filter_tags rows a b fault step)
finds_never format settings number events asked rows folder a b r rows_are some tells uses (goes_on verdict m step (stops fault is finds)) =
    let did = tell_did format number settings.filter_tags rows a m verdict step in
    same_cause fault r is
    (causes_never settings number events m b fault asked rows folder rows_are some (goes_ends (λ s t. TellsEvents number events t) refl (sym did.folder) tells)
    (λ is_asked. subst (λ (o : Option Spawning). IsSomeAnd o (λ s. UseNoBroken events (suspects_in events) s.outputs)) (sym did.spawner) (uses is_asked)) finds)
finds_never format settings number events asked rows folder a b r rows_are some tells uses (goes_on verdict m step (goes_on _ k finds gives)) = absurd (gives_not k b r gives)

some_of : {S : Type 0} (a : Option S) (P : S → Type 0) → IsSomeAnd a P → IsSomeAnd a (λ s. Unit {0})
some_of None P has = has
some_of (Some s) P has = tt

-- what is told stays told
still_told : {S : Type 0} (a b : Option S) (P : S → Type 0) (R : S → S → Type 0) → IsSomeAnd a P → Goes a b R → IsSomeAnd b (λ s. Unit {0})
still_told a b P R has goes = moved a b P (λ s. Unit {0}) R has goes (λ s t p q. tt)

run_by_never : (options : RunOptions) (settings : Settings) (a b : Work) (r : Refusal) → RunsBy options settings a b (Err r) → CanRunBy options settings a → NoCause r
run_by_never options settings a b r (stops fault is step) can = same_cause (refusal.Open fault) r is (
  (λ three. open_never a.folder b.folder fault (takes_in_repository a.folder.told can.free) step.at three),
  (λ child. child),
)
run_by_never options settings a b r (goes_on found m opened (stops fault is step)) can = absurd (not_full a.folder.told can.free (runs_are a.folder m.folder found most_runs opened.at step.says.full.1))
run_by_never options settings a b r (goes_on found m opened (goes_on _ m2 took (stops fault is step))) can = same_cause (refusal.Pattern fault) r is (pattern_never options.wanted.patterns options.wanted.excluded settings.group_regex fault can.good can.good_regex step.says)
run_by_never options settings a b r (goes_on found m opened (goes_on _ m2 took (goes_on _ m3 compiled (stops fault is step)))) can =
    let site : a.site.told ≡ m3.site.told = sym ((λ i. (compiled.same i).site.told) ∙ (λ i. (took.same i).site.told) ∙ (λ i. (opened.rest i).site.told)) in
    let children : a.spawner.told ≡ m3.spawner.told = sym ((λ i. (compiled.same i).spawner.told) ∙ (λ i. (took.same i).spawner.told) ∙ (λ i. (opened.rest i).spawner.told)) in
    let on_site : CanSelect options settings m3.site.told a.spawner.told = subst (λ (o : Option Files). CanSelect options settings o a.spawner.told) site can.select in
    same_cause fault r is (select_never settings options m3 b fault step (subst (CanSelect options settings m3.site.told) children on_site))
run_by_never options settings a b r (goes_on found m opened (goes_on _ m2 took (goes_on _ m3 compiled (goes_on selected m4 selects (stops fault is step))))) can =
    let calm : m3 ≡ m = compiled.same ∙ took.same in
    let files : Goes a.folder.told m3.folder.told KeepsFiles =
    subst (λ (w : Work). Goes a.folder.told w.folder.told KeepsFiles) (sym calm) (goes_weaker a.folder.told m.folder.told KeepsReads KeepsFiles (open_quiet a m (Ok found) opened.at) (λ s t rests. rests.files)) in
    let may : MaySelect settings options a selected = record {
      start = m3;
      folder = files;
      site_is = (λ i. (calm i).site.told) ∙ (λ i. (opened.rest i).site.told);
      children_are = (λ i. (calm i).spawner.told) ∙ (λ i. (opened.rest i).spawner.told);
      selecting = m4;
      selects = selects;
    } in
    same_cause fault r is (plan_never settings options.find_causes selected m4 b fault step (selected_range settings options m3 m4 selected selects) (can.handed selected may) (λ times. can.named times selected may) can.hands_ids)
run_by_never options settings a b r (goes_on found m opened (goes_on _ m2 took (goes_on _ m3 compiled (goes_on selected m4 selects (goes_on plan m5 planned (stops fault is step)))))) can = same_cause fault r is (work_never _ _ plan m5 b fault step)
run_by_never options settings a b r (goes_on found m opened (goes_on _ m2 took (goes_on _ m3 compiled (goes_on selected m4 selects (goes_on plan m5 planned (goes_on rows m6 worked tells)))))) can =
    let calm : m3 ≡ m = compiled.same ∙ took.same in
    let quiet : Goes a.folder.told m3.folder.told KeepsReads = subst (λ (w : Work). Goes a.folder.told w.folder.told KeepsReads) (sym calm) (open_quiet a m (Ok found) opened.at) in
    let children : m3.spawner.told ≡ a.spawner.told = (λ i. (calm i).spawner.told) ∙ (λ i. (opened.rest i).spawner.told) in
    let may : MaySelect settings options a selected = record {
      start = m3;
      folder = goes_weaker a.folder.told m3.folder.told KeepsReads KeepsFiles quiet (λ s t rests. rests.files);
      site_is = (λ i. (calm i).site.told) ∙ (λ i. (opened.rest i).site.told);
      children_are = children;
      selecting = m4;
      selects = selects;
    } in
    let range = selected_range settings options m3 m4 selected selects in
    let before = leaves_then m3 m4 m5 (select_leaves settings options m3 m4 selected selects) (plan_leaves settings options.find_causes selected m4 m5 plan planned) in
    let work = work_did (is_partial options) (length (kinds_of found)) plan m5 m6 rows (few_jobs settings options.find_causes selected m4 m5 plan range planned) worked in
    let at_rest : IfSome m3.folder.told IsCalm = subst (λ (w : Work). IfSome w.folder.told IsCalm) (sym calm) (surveyed_calm (kinds_of found) a.folder.told m.folder.told opened.at.found) in
    let kept = goes_ends (KeepsRunAndCaches (length (kinds_of found)) (run_of (is_partial options) (run_bytes work.events))) before.folder refl work.kept in
    let tells_of : Goes a.folder.told m6.folder.told (λ s t. TellsEvents (length (kinds_of found)) work.events t) =
    tells_behind (is_partial options) (length (kinds_of found)) work.events a.folder.told m3.folder.told m6.folder.told KeepsReads work.are_events work.fit quiet at_rest kept in
    let some_folder : IsSomeAnd a.folder.told (λ s. Unit {0}) = some_of a.folder.told _ can.free in
    let some_children : IsSomeAnd m5.spawner.told (λ s. Unit {0}) =
    still_told m3.spawner.told m5.spawner.told (λ s. Unit {0}) (λ s t. ⊤) (subst (λ (o : Option Spawning). IsSomeAnd o (λ s. Unit {0})) (sym children) (some_of a.spawner.told _ can.select.count)) before.told in
    finds_never options.format settings (length (kinds_of found)) work.events options.find_causes rows a.folder.told m6 b r work.rows_are some_folder tells_of
    (λ asked. probes_behind plan work.outputs work.events m5.spawner.told m6.spawner.told some_children (can.probes asked plan m5 (record { selected = selected; may = may; plans = planned })) work.started work.of_workers)
    tells

can_run_by : (options : RunOptions) (a : Work) (can : CanRun options a) → CanRunBy options can.settings a
can_run_by options a can = record {
  free = can.free;
  good = can.good;
  good_regex = can.good_regex;
  select = record { load_list = can.load_list; lists = can.lists; table = can.table; count = can.count; job = can.job; ends = can.ends };
  handed = can.handed;
  named = can.named;
  hands_ids = can.hands_ids;
  probes = can.probes;
}

-- the read of the configuration touches no other part, and leaves the files
read_then : (options : RunOptions) (settings : Settings) (a m : Work) → m.folder.told ≡ a.folder.told → m.site.told ≡ a.site.told → m.spawner.told ≡ a.spawner.told → CanRunBy options settings a → CanRunBy options settings m
read_then options settings a m folder site children can =
    let on_site : CanSelect options settings m.site.told a.spawner.told = subst (λ (o : Option Files). CanSelect options settings o a.spawner.told) (sym site) can.select in
    record {
      free = subst (λ (o : Option Folder). IsSomeAnd o (λ s. (number : ℕ) × (number < most_runs) × HasRuns number s)) (sym folder) can.free;
      good = can.good;
      good_regex = can.good_regex;
      select = subst (CanSelect options settings m.site.told) (sym children) on_site;
      handed = λ selected may. can.handed selected (before selected may);
      named = λ times selected may. can.named times selected (before selected may);
      hands_ids = can.hands_ids;
      probes = λ asked plan planning may. can.probes asked plan planning (record { selected = may.selected; may = before may.selected may.may; plans = may.plans });
    }
  where
    before : (selected : Selected) → MaySelect settings options m selected → MaySelect settings options a selected
    before selected may = record {
      start = may.start;
      folder = subst (λ (o : Option Folder). Goes o may.start.folder.told KeepsFiles) folder may.folder;
      site_is = may.site_is ∙ site;
      children_are = may.children_are ∙ children;
      selecting = may.selecting;
      selects = may.selects;
    }

pub run_never : (options : RunOptions) (a b : Work) (r : Refusal) → RunsSuite options a b (Err r) → CanRun options a → NoCause r
run_never options a b r (stops fault is step) can = same_cause (refusal.Conf fault) r is (conf_never options.project can.settings a.site b.site fault can.conf step.at)
run_never options a b r (goes_on settings m read next) can =
    let same : can.settings ≡ settings = same_settings options.project can.settings settings a.site m.site can.conf read.at in
    let by : CanRunBy options settings a = subst (λ (s : Settings). CanRunBy options s a) same (can_run_by options a can) in
    run_by_never options settings m b r next (read_then options settings a m (λ i. (read.rest i).folder.told) read.at.same (λ i. (read.rest i).spawner.told) by)
