-- In which order jobs are started where a project asks for instances.
use Rattle.std.proofs.Common.{◌≡◌, ◌⊎◌, inl, inr, ℕ, zero, suc, pos, Bool, true, false, true≢false, Option, None, Some, Result, Ok, Err, List, [], ◌∷◌, ◌++◌, refl, sym, ap, subst, ◌∙◌, append_assoc, append-nil}
use Rattle.std.specs.Prelude.{ℤ, is_some, option_map}
use Rattle.std.specs.Fmt.{decimal}
use Rattle.edge_io.specs.Children.{Output}
use Rattle.edge_io.specs.Disk.{Files}
use Rattle.edge_io.specs.Seen.{Seen}
use Rattle.edge_io.specs.Spawners.{Spawning}
use Rattle.edge_io.specs.Steps.{Goes, Stays}
use Rattle.edge_io.specs.declared.child.Finish.TheVariants.{Exit}
use Rattle.edge_io.specs.declared.job.Job.{Job}
use Rattle.edge_io.proofs.Going.{goes_then, goes_weaker}
use Rattle.outcome_fold.specs.declared.row.Row.{Row}
use Rattle.isolation_bisect.specs.declared.found.Found.{Found}
use Rattle.suite_causes.specs.Searching.{TestIds, HasProbeCause, Searches, SearchesSo, StopsSearch}
use Rattle.suite_causes.specs.declared.cause_search.SearchFault.{SearchFault}
use Rattle.suite_causes.specs.declared.cause_search.SearchFault.TheVariants as search_fault
use Rattle.suite_causes.specs.declared.suspects.Suspect.{Suspect}
use Rattle.suite_plan.specs.Calling.{CallsOut, CallsSo, HasCallCause}
use Rattle.suite_plan.specs.Children.{StartsFor, IsBroken}
use Rattle.suite_plan.specs.Provisioning.{EndsWithZero, EndsUnheard, EndsOtherwise, NamesNone, NamesSome, Provisions, ProvisionsSo, HasProvisionCause, StartsProvisioning, StartsToMeet, Disposes, HasDisposeFault}
use Rattle.suite_plan.specs.declared.count_command.CallRefusal.{CallRefusal}
use Rattle.suite_plan.specs.declared.count_command.CallRefusal.TheVariants as call
use Rattle.suite_plan.specs.declared.disposing.DisposeFault.{DisposeFault}
use Rattle.suite_plan.specs.declared.disposing.DisposeFault.TheVariants as end
use Rattle.suite_plan.specs.declared.provisioning.ProvisionRefusal.{ProvisionRefusal}
use Rattle.suite_plan.specs.declared.provisioning.ProvisionRefusal.TheVariants as provision
use Rattle.suite_run.specs.Starting.{HasStarted, StartsLanes, StartsSome}
use Rattle.suite_run.specs.declared.lane_starter.StartRefusal.{StartRefusal}
use Rattle.testr_conf.specs.Jobs.{count_job_of, dispose_job_of, plain_job, provision_job_of}
use Rattle.testr_conf.specs.Settings.{Settings, asks_instances}
use Rattle.testr_conf.specs.Variables.{filled, of_provision}
use Rattle.testr_words.specs.Suites.{ListOptions, RunOptions, is_partial, on_these}
use Rattle.testr_words.specs.Tasks.{Task, expects_for, forces, forces_for, hides_for, list, live_for, run, streams_for, task_with, warns_for}
use Rattle.testr_words.specs.declared.command.Command.{Command}
use Rattle.testr_words.specs.declared.command.Verb.{Verb}
use Rattle.testr_words.specs.declared.command.Verb.TheVariants as verb
use Rattle.testr_words.specs.declared.format.FormatKind.{FormatKind}
use Rattle.testr_words.specs.declared.live_kind.LiveKind.{LiveKind}
use Rattle.testr_words.specs.declared.live_kind.LiveKind.TheVariants.{Nothing, Tests, Failures, Dots}
use Rattle.worker_lane.specs.declared.lot.Lot.{Lot}
use Rattle.command_steps.specs.Causes.{FindsAmong, FindsCauses, FindsEach, candidates_in}
use Rattle.command_steps.specs.Instances.{DisposesOf, disposal_behind, provided}
use Rattle.command_steps.specs.Outside.{Outside, Work, work_of}
use Rattle.command_steps.specs.Selecting.{CountsWorkers, Planned, UsesAsked, UsesCalled}
use Rattle.command_steps.specs.Steps.{Step, Then, stops, goes_on, Gives}
use Rattle.command_steps.specs.Working.{Works}
use Rattle.command_steps.specs.declared.answer.Refusal.{Refusal}
use Rattle.command_steps.specs.declared.instances.Provided.{Provided}
use Rattle.testr_commands.specs.Elsewhere.{AsksForInstances, CountsFor, Elsewhere, GoesElsewhere, GoesProvided, HasProject, ReadiesIf, StopsUnprovided, plain}
use Rattle.testr_commands.specs.JobOrder.{EndsNaming, HasJobOrder, JobCourse, MayStartJob, StartsJob, StartsMore, StartsUnlessFailed, in_turn, not_provisioned, not_well}
use Rattle.testr_commands.specs.Program.{Promises}
use Rattle.testr_commands.specs.RunSuite.{ListsSuite, RunsSuite, TellsAndFinds, TellsRun}
use Rattle.testr_commands.specs.Spoken.{Behind, Saying, without_errors}
use Rattle.testr_commands.specs.WholeCall.{PromisesCommand, PromisesEnding, PromisesHiding, PromisesSaying, without_out}
use Rattle.testr_commands.specs.Workers.{AsksFew}
use Rattle.testr_commands.proofs.ElsewhereLemmas.{ready_site}
use Rattle.testr_commands.proofs.SuiteReach.{GoesOnWith, Reached, lists_few, reaches}

-- ---- what is started comes behind what was

more_none : (s t : Spawning) → Stays s t → StartsMore s t
more_none s t is = record { jobs = []; started = ap (λ (x : Spawning). x.started) is ∙ sym (append-nil s.started) }

more_one : (job : Job) (output : Output) (s t : Spawning) → StartsFor job output s t → StartsMore s t
more_one job output s t starts = record { jobs = job ∷ []; started = starts.jobs }

more_few : (most : ℕ) (s t : Spawning) → AsksFew most s t → StartsMore s t
more_few most s t asks = record { jobs = asks.asked; started = asks.started }

more_then : (s m t : Spawning) → StartsMore s m → StartsMore m t → StartsMore s t
more_then s m t first second = record {
  jobs = first.jobs ++ second.jobs;
  started = second.started ∙ ap (λ (l : List Job). l ++ second.jobs) first.started ∙ append_assoc s.started first.jobs second.jobs;
}

goes_same : (a b : Option Spawning) → b ≡ a → Goes a b StartsMore
goes_same None None same = tt
goes_same None (Some t) same = cc
goes_same (Some s) None same = cc
goes_same (Some s) (Some t) same = more_none s t cc

-- so it is of a step of the work
abbrev Adds : Work → Work → Type 0
Adds a b = Goes a.spawner.told b.spawner.told StartsMore

adds_then : (a m b : Work) → Adds a m → Adds m b → Adds a b
adds_then a m b first second = goes_then a.spawner.told m.spawner.told b.spawner.told StartsMore StartsMore StartsMore first second more_then

adds_none : (a b : Work) → b.spawner ≡ a.spawner → Adds a b
adds_none a b same = goes_same a.spawner.told b.spawner.told (ap (λ (w : Seen Spawning). w.told) same)

abbrev IsAdding : {A E : Type 0} → Step Work A E → Type 0
IsAdding {A = A} {E = E} step = (a b : Work) (result : Result A E) → step a b result → Adds a b

then_adding : {A B E R : Type 0} {name : E → R} {first : Step Work A E} {second : A → Step Work B R} → IsAdding first → ((v : A) → IsAdding (second v)) → IsAdding (Then name first second)
then_adding adding rest a b result (stops e is step) = adding a b (Err e) step
then_adding adding rest a b result (goes_on v m done next) = adds_then a m b (adding a m (Ok v) done) (rest v m b result next)

gives_adding : {A : Type 0} {value : A} → IsAdding (Gives {R = Refusal} value)
gives_adding a b result gives = adds_none a b (ap (λ (w : Work). w.spawner) gives.same)

-- ---- the workers, and what comes behind them

lanes_add : (jobs : List Job) (asked : List (List (List ℕ))) (result : Result (List (Option (List Lot))) StartRefusal) (a b : Seen Spawning) → StartsLanes jobs asked a b result → Goes a.told b.told StartsMore
lanes_add jobs asked (Ok rests) a b starts = goes_weaker a.told b.told (HasStarted jobs asked rests) StartsMore starts.started (λ s t has. record { jobs = jobs; started = has.all.jobs_are })
lanes_add jobs asked (Err refusal) a b starts = goes_weaker a.told b.told (StartsSome jobs refusal) StartsMore starts.refused (λ s t some. record { jobs = some.done; started = some.started.jobs_are })

probe_adds : (settings : Settings) (ids : TestIds) (fault : SearchFault) (s t : Spawning) → HasProbeCause settings ids fault s t → StartsMore s t
probe_adds settings ids search_fault.Spawn s t cause = more_none s t cause.1
probe_adds settings ids search_fault.Child s t cause = more_one cause.job cause.output s t cause.started
probe_adds settings ids search_fault.NoMemory s t (inl stays) = more_none s t stays
probe_adds settings ids search_fault.NoMemory s t (inr starts) = more_one starts.job starts.output s t starts.started

searches_add : (settings : Settings) (candidates : TestIds) (test : List ℕ) (result : Result Found SearchFault) (a b : Seen Spawning) → Searches settings candidates test a b result → Goes a.told b.told StartsMore
searches_add settings candidates test (Ok found) a b searches = goes_weaker a.told b.told (SearchesSo settings candidates test found) StartsMore searches.found (λ s t so. record { jobs = so.has.jobs; started = so.has.started })
searches_add settings candidates test (Err fault) a b searches = goes_weaker a.told b.told (StopsSearch settings candidates test fault) StartsMore searches.refused by
  where
    by : (s t : Spawning) → StopsSearch settings candidates test fault s t → StartsMore s t
    by s t stop = more_then s stop.between t (record { jobs = stop.has.jobs; started = stop.has.started }) (probe_adds settings _ fault stop.between t stop.cause)

among_adding : (settings : Settings) (test : List ℕ) (candidates : TestIds) → IsAdding (FindsAmong settings test candidates)
among_adding settings test candidates =
    then_adding (λ a b r s. searches_add settings candidates test r a.spawner b.spawner s.at) (λ found.
    then_adding (λ a b r s. adds_none a b (λ i. (s.rest i).spawner)) (λ _.
    gives_adding))

each_adding : (settings : Settings) (number : ℕ) (left : List Suspect) → IsAdding (FindsEach settings number left)
each_adding settings number [] = gives_adding
each_adding settings number (one ∷ more) =
    then_adding (then_adding (λ a b r s. adds_none a b (λ i. (s.rest i).spawner)) (λ ids. among_adding settings one.id (candidates_in one.id ids))) (λ _.
    each_adding settings number more)

causes_adding : (asked : Bool) (settings : Settings) (number : ℕ) (rows : List Row) → IsAdding (FindsCauses asked settings number rows)
causes_adding false settings number rows = gives_adding
causes_adding true settings number rows = then_adding (λ a b r s. adds_none a b (λ i. (s.same i).spawner)) (λ suspects. each_adding settings number suspects)

works_adding : (partial : Bool) (number : ℕ) (plan : Planned) → IsAdding (Works partial number plan)
works_adding partial number plan =
    then_adding (λ a b r s. adds_none a b (λ i. (s.rest i).spawner)) (λ _.
    then_adding (λ a b r s. lanes_add plan.jobs plan.asked r a.spawner b.spawner s.at) (λ rests.
    then_adding (λ a b r s. adds_none a b (λ i. (s.rest i).spawner)) (λ rows.
    then_adding (λ a b r s. adds_none a b (λ i. (s.rest i).spawner)) (λ _.
    then_adding (λ a b r s. adds_none a b (λ i. (s.rest i).spawner)) (λ _.
    gives_adding)))))

tells_adding : (format : FormatKind) (number : ℕ) (tags : List (List ℕ)) (rows : List Row) → IsAdding (TellsRun format number tags rows)
tells_adding format number tags rows =
    then_adding (λ a b r s. adds_none a b (λ i. (s.same i).spawner)) (λ report.
    then_adding (λ a b r s. adds_none a b (λ i. (s.rest i).spawner)) (λ _.
    gives_adding))

finds_adding : (format : FormatKind) (find_causes : Bool) (settings : Settings) (number : ℕ) (rows : List Row) → IsAdding (TellsAndFinds format find_causes settings number rows)
finds_adding format find_causes settings number rows =
    then_adding (tells_adding format number settings.filter_tags rows) (λ verdict.
    then_adding (causes_adding find_causes settings number rows) (λ _.
    gives_adding))

-- ---- a run and a listing

run_adding : (options : RunOptions) → IsAdding (RunsSuite options)
run_adding options a b result runs = elim (reaches options a b result runs) [
  | inl mild ↦ goes_weaker a.spawner.told b.spawner.told (AsksFew 2) StartsMore mild.0.asked (more_few 2)
  | inr far ↦ behind far.0 far.1
]
  where
    behind : (reached : Reached options a) → GoesOnWith options reached.number reached.plan reached.planned.settings reached.planning b result → Adds a b
    behind reached goes =
        adds_then a reached.planning b
        (goes_weaker a.spawner.told reached.planning.spawner.told (AsksFew 2) StartsMore reached.mild.asked (more_few 2))
        (then_adding (works_adding (is_partial options) reached.number reached.plan) (λ rows. finds_adding options.format options.find_causes reached.planned.settings reached.number rows) reached.planning b result goes)

list_adding : (options : ListOptions) → IsAdding (ListsSuite options)
list_adding options =
    then_adding (λ a b r s. adds_none a b (λ i. (s.rest i).spawner)) (λ settings.
    then_adding (λ a b r s. adds_none a b (λ i. (s.same i).spawner)) (λ _.
    then_adding (λ a b r s. adds_none a b (λ i. (s.rest i).spawner)) (λ further.
    then_adding (λ a b r s. goes_weaker a.spawner.told b.spawner.told (AsksFew 1) StartsMore (lists_few settings r a.spawner b.spawner s.at) (more_few 1)) (λ ids.
    then_adding (λ a b r s. adds_none a b (λ i. (s.same i).spawner)) (λ text.
    then_adding (λ a b r s. adds_none a b (λ i. (s.rest i).spawner)) (λ _.
    gives_adding))))))

-- ---- beneath all that is promised of the call

run_adds : (options : RunOptions) (b a : Outside) (answer : ℕ) → Promises false (Some (run options)) b a answer → Adds (work_of b) (work_of a)
run_adds options b a answer promised = elim (promised.answers.done) [
  | inl does ↦ run_adding options (work_of b) (work_of a) promised.answers.outcome does
  | inr reads ↦ absurd (true≢false (sym reads.0))
]

list_adds : (options : ListOptions) (b a : Outside) (answer : ℕ) → Promises false (Some (list options)) b a answer → Adds (work_of b) (work_of a)
list_adds options b a answer promised = elim (promised.answers.done) [
  | inl does ↦ list_adding options (work_of b) (work_of a) promised.answers.outcome does
  | inr reads ↦ absurd (true≢false (sym reads.0))
]

abbrev AddsSo : (Outside → Outside → ℕ → Type 0) → Type 0
AddsSo promises = (b a : Outside) (answer : ℕ) → promises b a answer → Adds (work_of b) (work_of a)

module _ (promises : Outside → Outside → ℕ → Type 0) (each : AddsSo promises) where
  behind_adds : (failed : Bool) (spoken : Seen (List ℕ)) (b a : Outside) (answer : ℕ) → Behind failed spoken promises b a answer → Adds (work_of b) (work_of a)
  behind_adds true spoken b a answer given = each (without_errors b) (without_errors a) answer given.1
  behind_adds false spoken b a answer given = each (record b { errors = spoken }) a answer given

  saying_adds : (kind : LiveKind) (asked : Option Task) → AddsSo (Saying kind asked promises)
  saying_adds Nothing asked b a answer given = each b a answer given
  saying_adds Tests asked b a answer given = behind_adds given.failed given.spoken b a answer given.rest
  saying_adds Failures asked b a answer given = behind_adds given.failed given.spoken b a answer given.rest
  saying_adds Dots asked b a answer given = behind_adds given.failed given.spoken b a answer given.rest

module _ (asked : Option Task) (each : AddsSo (PromisesEnding false false None asked)) where
  hiding_adds : (hide : Bool) → AddsSo (PromisesHiding hide false false None asked)
  hiding_adds true b a answer given = each (without_out b) (without_out a) answer given.rest
  hiding_adds false b a answer given = each b a answer given

  all_adds : (stream : Bool) (kind : LiveKind) (hide : Bool) → AddsSo (PromisesSaying stream kind hide false false None asked)
  all_adds true kind hide b a answer given = saying_adds (PromisesEnding false false None asked) each kind asked (without_out b) (record (without_out a) { errors = given.told }) given.inner given.rest
  all_adds false kind hide b a answer given = saying_adds (PromisesHiding hide false false None asked) (hiding_adds hide) kind asked b a answer given

there_adds : (folder : List ℕ) (workers : ℕ) (instances : List (List ℕ)) (c : Command) (v : Verb) → HasProject v → (b a : Outside) (answer : ℕ)
    → PromisesCommand (warns_for (on_these workers instances (plain c)).too_many (task_with folder v (on_these workers instances (plain c)))) (streams_for c.subunit (task_with folder v (on_these workers instances (plain c)))) (live_for c.live (task_with folder v (on_these workers instances (plain c)))) (hides_for c.no_report (task_with folder v (on_these workers instances (plain c)))) (forces_for (on_these workers instances (plain c)).force_init (task_with folder v (on_these workers instances (plain c)))) (expects_for c.expect (task_with folder v (on_these workers instances (plain c)))) (task_with folder v (on_these workers instances (plain c))) b a answer
    → Adds (work_of b) (work_of a)
there_adds folder workers instances c verb.Run has b a answer given =
    all_adds (task_with folder verb.Run (on_these workers instances (plain c))) (λ x y n promised. run_adds _ x (record y { errors = promised.told }) promised.inner promised.rest) c.subunit c.live c.no_report b a answer given
there_adds folder workers instances c verb.ListTests has b a answer given =
    all_adds (task_with folder verb.ListTests (on_these workers instances (plain c))) (λ x y n promised. list_adds _ x y n promised) false Nothing false b a answer given
there_adds folder workers instances c v has b a answer given = absurd has

-- ---- the workers are counted

counted_not : (settings : Settings) (s t : Spawning) → Stays s t → MayStartJob (count_job_of settings) s t
counted_not settings s t stays = inl stays

calls_count : (settings : Settings) (result : Result (Option ℕ) CallRefusal) (a b : Seen Spawning) → CallsOut settings a b result → Goes a.told b.told (MayStartJob (count_job_of settings))
calls_count settings (Ok None) a b calls = goes_weaker a.told b.told Stays (MayStartJob (count_job_of settings)) calls.told (counted_not settings)
calls_count settings (Ok (Some number)) a b calls = goes_weaker a.told b.told (CallsSo settings (Some number)) (MayStartJob (count_job_of settings)) calls.told (λ s t starts. inr (record { one = starts.job; is = starts.job_is; output = starts.output; starts = starts.started }))
calls_count settings (Err call.Spawn) a b calls = goes_weaker a.told b.told (HasCallCause settings call.Spawn) (MayStartJob (count_job_of settings)) calls.refused (λ s t cause. inl cause.1)
calls_count settings (Err call.Child) a b calls = goes_weaker a.told b.told (HasCallCause settings call.Child) (MayStartJob (count_job_of settings)) calls.refused (λ s t starts. inr (record { one = starts.job; is = starts.job_is; output = starts.output; starts = starts.started }))
calls_count settings (Err (call.NoNumber said)) a b calls = goes_weaker a.told b.told (HasCallCause settings (call.NoNumber said)) (MayStartJob (count_job_of settings)) calls.refused (λ s t starts. inr (record { one = starts.job; is = starts.job_is; output = starts.output; starts = starts.started }))
calls_count settings (Err call.NoMemory) a b calls = goes_weaker a.told b.told (HasCallCause settings call.NoMemory) (MayStartJob (count_job_of settings)) calls.refused by
  where
    by : (s t : Spawning) → HasCallCause settings call.NoMemory s t → MayStartJob (count_job_of settings) s t
    by s t (inl stays) = inl stays
    by s t (inr starts) = inr (record { one = starts.job; is = starts.job_is; output = starts.output; starts = starts.started })

abbrev Counted : Settings → Work → Work → Type 0
Counted settings a b = Goes a.spawner.told b.spawner.told (MayStartJob (count_job_of settings))

count_same : (settings : Settings) (a b : Option Spawning) → b ≡ a → Goes a b (MayStartJob (count_job_of settings))
count_same settings None None same = tt
count_same settings None (Some t) same = cc
count_same settings (Some s) None same = cc
count_same settings (Some s) (Some t) same = inl cc

count_none : (settings : Settings) (a b : Work) → b.spawner ≡ a.spawner → Counted settings a b
count_none settings a b same = count_same settings a.spawner.told b.spawner.told (ap (λ (w : Seen Spawning). w.told) same)

called_still : (called : Option ℕ) (a b : Work) (result : Result ℕ Refusal) → UsesCalled called a b result → b.spawner ≡ a.spawner
called_still (Some (suc less)) a b result gives = λ i. (gives.same i).spawner
called_still (Some zero) a b result (stops e is step) = λ i. (step.rest i).spawner
called_still (Some zero) a b result (goes_on v m step gives) = (λ i. (gives.same i).spawner) ∙ (λ i. (step.rest i).spawner)
called_still None a b result (stops e is step) = λ i. (step.rest i).spawner
called_still None a b result (goes_on v m step gives) = (λ i. (gives.same i).spawner) ∙ (λ i. (step.rest i).spawner)

asked_count : (settings : Settings) (asked : ℕ) (a b : Work) (result : Result ℕ Refusal) → UsesAsked settings asked a b result → Counted settings a b
asked_count settings (suc less) a b result gives = count_none settings a b (λ i. (gives.same i).spawner)
asked_count settings zero a b result (stops e is step) = calls_count settings (Err e) a.spawner b.spawner step.at
asked_count settings zero a b result (goes_on called m step next) =
    subst (λ (w : Seen Spawning). Goes a.spawner.told w.told (MayStartJob (count_job_of settings))) (sym (called_still called m b result next)) (calls_count settings (Ok called) a.spawner m.spawner step.at)

workers_count : (settings : Settings) (parallel : Bool) (asked : ℕ) (a b : Work) (result : Result ℕ Refusal) → CountsWorkers settings parallel asked a b result → Counted settings a b
workers_count settings false asked a b result gives = count_none settings a b (λ i. (gives.same i).spawner)
workers_count settings true asked a b result uses = asked_count settings asked a b result uses

counts_so : (v : Verb) (c : Command) (settings : Settings) (a b : Work) (result : Result ℕ Refusal) → CountsFor v c settings a b result → Counted settings a b
counts_so verb.Run c settings a b result counts = workers_count settings c.parallel c.concurrency a b result counts
counts_so v c settings a b result gives = count_none settings a b (λ i. (gives.same i).spawner)

-- ---- the end of the instances

disposes_so : (job : Job) (answer : Result (Unit {0}) DisposeFault) (a b : Seen Spawning) → Disposes job a b answer → StartsUnlessFailed (Some job) a b
disposes_so job (Ok done) a b disposes = inl (goes_weaker a.told b.told (StartsToMeet job EndsWithZero) (StartsJob (Some job)) disposes.done (λ s t starts. record { one = job; is = refl; output = starts.output; starts = starts.started }))
disposes_so job (Err end.Spawn) a b disposes = inr (disposes.failed, disposes.count.rose refl)
disposes_so job (Err end.Child) a b disposes = inl (goes_weaker a.told b.told (HasDisposeFault job end.Child) (StartsJob (Some job)) disposes.failed (λ s t starts. record { one = job; is = refl; output = starts.output; starts = starts.started }))
disposes_so job (Err (end.Ended status)) a b disposes = inl (goes_weaker a.told b.told (HasDisposeFault job (end.Ended status)) (StartsJob (Some job)) disposes.failed (λ s t starts. record { one = job; is = refl; output = starts.output; starts = starts.started }))
disposes_so job (Err end.NoMemory) a b disposes = inl (goes_weaker a.told b.told (HasDisposeFault job end.NoMemory) (StartsJob (Some job)) disposes.failed (λ s t starts. record { one = job; is = refl; output = starts.output; starts = starts.started }))

ends_so : (disposal : Option Job) (a b : Seen Spawning) (errors told : Seen (List ℕ)) → DisposesOf disposal a b errors told → StartsUnlessFailed disposal a b
ends_so None a b errors told disposes = disposes.0
ends_so (Some job) a b errors told disposes = disposes_so job disposes.answer a b disposes.disposes

-- ---- the provision job

provision_weaker : (settings : Settings) (workers : ℕ) (P Q : Output → Type 0) → ((o : Output) → P o → Q o) → (s t : Spawning) → StartsProvisioning settings workers P s t → StartsProvisioning settings workers Q s t
provision_weaker settings workers P Q weaker s t starts = record {
  job = starts.job;
  job_is = starts.job_is;
  starts = record { output = starts.starts.output; started = starts.starts.started; meets = weaker starts.starts.output starts.starts.meets };
}

not_broken : (o : Output) → IsBroken o.finish → o.finish ≡ Exit (pos 0) → ⊥
not_broken o (inl read) is = cc
not_broken o (inr wait) is = cc

same_status : (o : Output) (status : ℤ) → o.finish ≡ Exit status → o.finish ≡ Exit (pos 0) → status ≡ pos 0
same_status o status one other = cc

goes_one : (a b : Option Spawning) (P Q : Spawning → Spawning → Type 0) → Goes a b (λ s t. P s t ⊎ Q s t) → Goes a b P ⊎ Goes a b Q
goes_one None None P Q goes = inl tt
goes_one None (Some t) P Q goes = absurd goes
goes_one (Some s) None P Q goes = absurd goes
goes_one (Some s) (Some t) P Q (inl one) = inl one
goes_one (Some s) (Some t) P Q (inr other) = inr other

stays_same : (a : Option Spawning) → Goes a a Stays
stays_same None = tt
stays_same (Some s) = refl

ready_spawner : (force : Bool) (before ready : Outside) → ReadiesIf force before ready → ready.spawner ≡ before.spawner
ready_spawner true before ready is = ap (λ (w : Outside). w.spawner) is.rest
ready_spawner false before ready is = ap (λ (w : Outside). w.spawner) is

module _ (settings : Settings) (workers : ℕ) (a ready b : Seen Spawning) (errors told : Seen (List ℕ)) where
  abbrev Course : Type 0
  Course = JobCourse settings workers a.told b

  -- the refusal came behind a provisioning that ended with 0
  ended : (disposal : Option Job) → Goes a.told ready.told (StartsProvisioning settings workers EndsWithZero) → disposal ≡ dispose_job_of settings → DisposesOf disposal ready b errors told → Course
  ended disposal starts is disposes = in_turn (record {
    names = None;
    provisioned = ready.told;
    provisions = goes_weaker a.told ready.told (StartsProvisioning settings workers EndsWithZero) (StartsProvisioning settings workers (EndsNaming None)) starts (provision_weaker settings workers EndsWithZero (EndsNaming None) (λ o zero. (zero, tt)));
    ended = ready;
    does = goes_same ready.told ready.told refl;
    disposes = subst (λ (d : Option Job). StartsUnlessFailed d ready b) is (ends_so disposal ready b errors told disposes);
  })

  -- nothing is disposed of
  left_so : (disposal : Option Job) (R : Spawning → Spawning → Type 0) → Goes a.told ready.told R → disposal ≡ None → DisposesOf disposal ready b errors told → Goes a.told b.told R
  left_so disposal R goes none disposes =
      let rest : b ≡ ready = ends_so None ready b errors told (subst (λ (d : Option Job). DisposesOf d ready b errors told) none disposes) in
      subst (λ (w : Seen Spawning). Goes a.told w.told R) (sym rest) goes

  refused_so : (refusal : ProvisionRefusal) (disposal : Option Job) → Goes a.told ready.told (HasProvisionCause settings workers refusal) → disposal ≡ disposal_behind settings refusal → DisposesOf disposal ready b errors told → Course
  refused_so provision.Spawn disposal cause is disposes = not_provisioned (left_so disposal Stays (goes_weaker a.told ready.told (HasProvisionCause settings workers provision.Spawn) Stays cause (λ s t why. why.1)) is disposes)
  refused_so provision.Child disposal cause is disposes =
      not_well (left_so disposal (StartsProvisioning settings workers EndsUnheard)
      (goes_weaker a.told ready.told (HasProvisionCause settings workers provision.Child) (StartsProvisioning settings workers EndsUnheard) cause
      (provision_weaker settings workers (λ o. IsBroken o.finish) EndsUnheard (λ o broken. inl (λ well. not_broken o broken well)))) is disposes)
  refused_so (provision.Failed status said) disposal cause is disposes =
      not_well (left_so disposal (StartsProvisioning settings workers EndsUnheard)
      (goes_weaker a.told ready.told (HasProvisionCause settings workers (provision.Failed status said)) (StartsProvisioning settings workers EndsUnheard) cause
      (provision_weaker settings workers (EndsOtherwise status said) EndsUnheard (λ o other. inl (λ well. other.other (same_status o status other.ended well))))) is disposes)
  refused_so provision.NoneNamed disposal cause is disposes =
      ended disposal
      (goes_weaker a.told ready.told (HasProvisionCause settings workers provision.NoneNamed) (StartsProvisioning settings workers EndsWithZero) cause
      (provision_weaker settings workers NamesNone EndsWithZero (λ o none. none.ended))) is disposes
  refused_so provision.NamesLost disposal cause is disposes = ended disposal cause is disposes
  refused_so provision.NoMemory disposal cause is disposes =
      elim (goes_one a.told b.told Stays (StartsProvisioning settings workers EndsUnheard) (left_so disposal (HasProvisionCause settings workers provision.NoMemory) cause is disposes)) [
        | inl stays ↦ not_provisioned stays
        | inr starts ↦ not_well starts
      ]

-- no instance was had
unprovided_so : (settings : Settings) (workers : ℕ) (before after : Outside) (answer : ℕ) → StopsUnprovided settings workers before after answer → JobCourse settings workers before.spawner.told after.spawner
unprovided_so settings workers before after answer stop = elim stop.provides.refused [
  | inl refuses ↦ refused_so settings workers before.spawner stop.ready after.spawner stop.stops.line after.errors stop.fault.refusal stop.fault.disposal refuses.provisions.refused refuses.disposal_is stop.stops.disposes
  | inr short ↦ ended settings workers before.spawner stop.ready after.spawner stop.stops.line after.errors stop.fault.disposal
      (goes_weaker before.spawner.told stop.ready.told (ProvisionsSo settings workers (Some short.names)) (StartsProvisioning settings workers EndsWithZero) short.provisions.told
      (provision_weaker settings workers (NamesSome short.names) EndsWithZero (λ o some. some.ended)))
      (short.disposal_is ∙ ap (disposal_behind settings) short.lost) stop.stops.disposes
]

-- there is a provision job
job_there : (settings : Settings) (workers : ℕ) → asks_instances settings ≡ true → provision_job_of settings workers ≡ None → ⊥
job_there settings workers asks none = by settings.provision asks none
  where
    by : (text : Option (List ℕ)) → is_some text ≡ true → option_map (λ (t : List ℕ). plain_job (filled (of_provision (decimal workers)) t)) text ≡ None → ⊥
    by None asks none = true≢false (sym asks)
    by (Some text) asks none = cc

-- on instances
provided_so : (folder : List ℕ) (command : Command) (settings : Settings) (workers : ℕ) (before after : Outside) (answer : ℕ) → HasProject command.verb → asks_instances settings ≡ true → GoesProvided folder command settings workers before after answer → JobCourse settings workers before.spawner.told after.spawner
provided_so folder command settings workers before after answer has asks goes = by goes.provides.given.names goes.provides.given.provisions goes.provides.given.given_is
  where
    by : (names : Option (List (List ℕ))) → Provisions settings workers before.spawner goes.ready (Ok names) → goes.given ≡ provided settings workers names → JobCourse settings workers before.spawner.told after.spawner
    by None provisions is = absurd (job_there settings workers asks (provisions.jobless refl))
    by (Some names) provisions is = in_turn (record {
      names = Some names;
      provisioned = goes.ready.told;
      provisions =
          goes_weaker before.spawner.told goes.ready.told (ProvisionsSo settings workers (Some names)) (StartsProvisioning settings workers (EndsNaming (Some names))) provisions.told
          (provision_weaker settings workers (NamesSome names) (EndsNaming (Some names)) (λ o some. (some.ended, some.names_are)));
      ended = goes.goes.ended.spawner;
      does = there_adds folder goes.given.workers goes.given.conf.instances command command.verb has (record before { spawner = goes.ready }) goes.goes.ended answer goes.goes.rest;
      disposes =
          subst (λ (d : Option Job). StartsUnlessFailed d goes.goes.ended.spawner after.spawner) (ap (λ (g : Provided). g.disposal) is)
          (ends_so goes.given.disposal goes.goes.ended.spawner after.spawner goes.goes.ended.errors after.errors goes.goes.disposes);
    })

-- ---- the whole call

module _ (folder : List ℕ) (command : Command) (before after : Outside) (answer : ℕ) where
  elsewhere_so : GoesElsewhere folder command before after answer → HasJobOrder folder command before after
  elsewhere_so (inl stop) = record {
    settings = stop.settings;
    asks = stop.asks;
    workers = 0;
    counted = after.spawner.told;
    counts = counts_so command.verb command stop.settings (work_of before) (work_of after) (Err stop.refusal) stop.counts;
    course = not_provisioned (stays_same after.spawner.told);
  }
  elsewhere_so (inr goes) = record {
    settings = goes.settings;
    asks = goes.asks;
    workers = goes.workers;
    counted = goes.counted.spawner.told;
    counts = counts_so command.verb command goes.settings (work_of before) (work_of goes.counted) (Ok goes.workers) goes.counts;
    course = elim goes.goes [
      | inl stop ↦ unprovided_so goes.settings goes.workers goes.counted after answer stop
      | inr given ↦ provided_so folder command goes.settings goes.workers goes.counted after answer goes.asks.project goes.asks.asks given
    ];
  }

-- what stands in front starts nothing
pub jobs_in_order : (folder : List ℕ) (command : Command) (before after : Outside) (answer : ℕ) → Elsewhere folder command before after answer → HasJobOrder folder command before after
jobs_in_order folder command before after answer there =
    let order : HasJobOrder folder command there.goes.ready after = elsewhere_so folder command there.goes.ready after answer there.goes.goes in
    let front : Outside = record before { errors = there.told } in
    let site : there.goes.ready.site ≡ before.site = ready_site (forces folder command) front there.goes.ready there.goes.is_ready in
    let spawner : there.goes.ready.spawner ≡ before.spawner = ready_spawner (forces folder command) front there.goes.ready there.goes.is_ready in
    record {
      settings = order.settings;
      asks = subst (λ (s : Seen Files). AsksForInstances folder command s order.settings) site order.asks;
      workers = order.workers;
      counted = order.counted;
      counts = subst (λ (s : Seen Spawning). Goes s.told order.counted (MayStartJob (count_job_of order.settings))) spawner order.counts;
      course = order.course;
    }
