-- What is true where `run`, `list-tests` and `selftest` refuse, and at each of their exits, from their chains: one line a
-- step, in the chains' order.
use Rattle.command_steps.specs.declared.work_plan.LongId.{LongId}
use Rattle.std.proofs.Common.{◌≡◌, ℕ, zero, suc, Bool, true, false, cond, Option, None, Some, Ok, Err, List, [], ◌∷◌, refl, subst}
use Rattle.std.specs.Prelude.{⊤}
use Rattle.edge_io.specs.Causes.{RisesExactlyIf}
use Rattle.edge_io.specs.Seen.{Seen}
use Rattle.edge_io.specs.declared.job.Job.{Job}
use Rattle.outcome_fold.specs.declared.row.Row.{Row}
use Rattle.sub_number.specs.declared.memory.NoMemory.{NoMemory}
use Rattle.isolation_bisect.specs.declared.found.Found.{Found}
use Rattle.suite_causes.specs.Searching.{Searches}
use Rattle.suite_causes.specs.declared.cause_search.SearchFault.{SearchFault}
use Rattle.suite_causes.specs.declared.suspects.Suspect.{Suspect}
use Rattle.suite_plan.specs.Calling.{CallsOut}
use Rattle.suite_plan.specs.ConfFile.{ReadsConf}
use Rattle.suite_plan.specs.Listing.{ListsTests}
use Rattle.suite_plan.specs.LoadList.{ReadsLoadList}
use Rattle.suite_plan.specs.Processors.{CountsProcessors}
use Rattle.suite_plan.specs.declared.count_command.CallRefusal.{CallRefusal}
use Rattle.suite_plan.specs.declared.conf_file.ConfRefusal.{ConfRefusal}
use Rattle.suite_plan.specs.declared.test_listing.ListingRefusal.{ListingRefusal}
use Rattle.suite_plan.specs.declared.load_list.ListRefusal.{ListRefusal}
use Rattle.command_steps.specs.declared.test_selection.FurtherRefusal.{FurtherRefusal}
use Rattle.suite_plan.specs.declared.patterns.PatternRefusal.{PatternRefusal}
use Rattle.suite_plan.specs.declared.processors.TableRefusal.{TableRefusal}
use Rattle.suite_run.specs.Recording.{RecordsLanes}
use Rattle.suite_run.specs.Starting.{StartsLanes}
use Rattle.suite_run.specs.declared.lane_recorder.LanesRefusal.{LanesRefusal}
use Rattle.suite_run.specs.declared.lane_starter.StartRefusal.{StartRefusal}
use Rattle.testr_conf.specs.Settings.{Settings}
use Rattle.testr_conf.specs.declared.fault.JobFault.{JobFault}
use Rattle.worker_lane.specs.declared.lot.Lot.{Lot}
use Rattle.command_steps.specs.Causes.{candidates_in, FindsAmong, FindsCause, FindsEach, FindsCauses}
use Rattle.command_steps.specs.Outside.{Work, work_folder, work_site, work_spawner, in_site, in_spawner, SameCounts, RisesAt}
use Rattle.command_steps.specs.Perhaps.{Perhaps, not_asked, did, refused}
use Rattle.testr_commands.specs.RunSuite.{ListsBy, ListsSuite, TellsRun, TellsAndFinds, RunsBy, RunsSuite}
use Rattle.command_steps.specs.Working.{Works}
use Rattle.command_steps.specs.Selecting.{further_refusal, ReadsFurther, UsesCalled, UsesAsked, CountsWorkers, Selects, Plans, Planned}
use Rattle.testr_commands.specs.SelfTest.{TestsItself}
use Rattle.command_steps.specs.Steps.{Step, Gives}
use Rattle.testr_words.specs.Suites.{ListOptions, Wanted, RunOptions, Project}
use Rattle.command_steps.specs.Told.{fault_fails}
use Rattle.command_steps.specs.declared.answer.Refusal.{Refusal}
use Rattle.command_steps.specs.declared.answer.Refusal.TheVariants as refusal
use Rattle.testr_words.specs.declared.selftest_words.SelfTestWords.{SelfTestWords}
use Rattle.command_steps.specs.declared.test_selection.Selected.{Selected}
use Rattle.command_steps.specs.declared.question_answers.TellFault.{TellFault}
use Rattle.testr_commands.proofs.ChainLemmas.{IsRefused, KeepsCounts, RefusesAs, then_counts, then_refuses, gives_refuses}
use Rattle.testr_commands.proofs.FurtherLaws.{further_stands, further_rises, further_named, further_place}
use Rattle.testr_commands.proofs.RefusalLemmas.{tell_place, ran_place, search_place, lanes_place, conf_place, list_place, table_place, call_place, listing_place, start_place}
use Rattle.testr_commands.proofs.StepLaws.{folder_same, folder_counts, placed, still_counts, still_refuses, runs_refuse, memory_refuses, open_counts, open_refuses, begin_counts, begin_refuses, keep_counts, keep_refuses, refresh_counts, refresh_refuses, print_counts, print_refuses}
use Rattle.testr_words.specs.declared.format.FormatKind.{FormatKind}

abbrev all : Work → Work
all w = w

-- a fault may be that of a child
abbrev SuiteRefuses : {A E : Type 0} → (E → Refusal) → Step Work A E → Type 0
SuiteRefuses {A = A} {E = E} name step = RefusesAs all ⊤ {A = A} {E = E} name step

value_refuses : {A : Type 0} {value : A} → SuiteRefuses (λ r. r) (Gives {R = Refusal} value)
value_refuses = gives_refuses all ⊤

value_counts : {A : Type 0} {value : A} → KeepsCounts all (Gives {R = Refusal} value)
value_counts a b v gives = still_counts a b gives.same

-- ---- a step that is done where it is asked for

module _ {X A E T : Type 0} {asked : Option X} {step : X → Step (Seen T) A E} where
  perhaps_stands : ((x : X) (a b : Seen T) (v : A) → step x a b (Ok v) → b.faults ≡ a.faults) → (a b : Seen T) (v : Option A) → Perhaps asked step a b (Ok v) → b.faults ≡ a.faults
  perhaps_stands stands a b v (not_asked none is same) = λ i. (same i).faults
  perhaps_stands stands a b v (did x value some is done) = stands x a b value done
  perhaps_stands stands a b v (refused x fault some is done) = cc

  perhaps_refused : (a b : Seen T) (Q : E → Type 0) → ((x : X) (e : E) → step x a b (Err e) → Q e) → (e : E) → Perhaps asked step a b (Err e) → Q e
  perhaps_refused a b Q at e (not_asked none is same) = cc
  perhaps_refused a b Q at e (did x value some is done) = cc
  perhaps_refused a b Q at e (refused x fault some is done) =
      let same : fault ≡ e = cc in
      subst Q same (at x fault done)

module _ (a b : Work) where
  -- ---- where one part alone is touched

  module _ (rest : b ≡ work_folder.put a b.folder) where
    tell_refuses : (fault : TellFault) → RisesExactlyIf a.folder.faults b.folder.faults (fault_fails fault) → IsRefused ⊤ (refusal.Tell fault) a b
    tell_refuses fault count = placed a b (refusal.Tell fault) tt (λ c. tt) (tell_place fault) (folder_counts a b _ count rest)

    ran_refuses : (fault : TellFault) → RisesExactlyIf a.folder.faults b.folder.faults (fault_fails fault) → IsRefused ⊤ (refusal.Ran fault) a b
    ran_refuses fault count = placed a b (refusal.Ran fault) tt (λ c. tt) (ran_place fault) (folder_counts a b _ count rest)

    lanes_refuse : (rests : List (Option (List Lot))) (fault : LanesRefusal) → RecordsLanes rests a.folder b.folder (Err fault) → IsRefused ⊤ (refusal.Lanes fault) a b
    lanes_refuse rests fault records = placed a b (refusal.Lanes fault) tt (λ c. tt) (lanes_place (List Row) fault) (folder_counts a b _ records.sum rest)

  module _ (rest : b ≡ work_site.put a b.site) where
    site_same : b.site.faults ≡ a.site.faults → SameCounts a b
    site_same count = record { folder = λ i. (rest i).folder.faults; site = count; spawner = λ i. (rest i).spawner.faults; input = λ i. (rest i).input.faults; out = λ i. (rest i).out.faults }

    site_counts : (failed : Bool) → RisesExactlyIf a.site.faults b.site.faults failed → RisesAt (cond failed (Some in_site) None) a b
    site_counts true count = (count.rose refl, (λ i. (rest i).folder.faults), (λ i. (rest i).spawner.faults), (λ i. (rest i).input.faults), (λ i. (rest i).out.faults))
    site_counts false count = site_same (count.stands refl)

    conf_refuses : (project : Project) (fault : ConfRefusal) → ReadsConf project a.site b.site (Err fault) → IsRefused ⊤ (refusal.Conf fault) a b
    conf_refuses project fault reads = placed a b (refusal.Conf fault) tt (λ c. tt) (conf_place Settings fault) (site_counts _ reads.count)

    list_refuses : (name : List ℕ) (fault : ListRefusal) → ReadsLoadList name a.site b.site (Err fault) → IsRefused ⊤ (refusal.LoadList fault) a b
    list_refuses name fault reads = placed a b (refusal.LoadList fault) tt (λ c. tt) (list_place (List (List ℕ)) fault) (site_counts _ reads.count)

    further_refuses : (wanted : Wanted) (fault : FurtherRefusal) → ReadsFurther wanted a.site b.site (Err fault) → IsRefused ⊤ (further_refusal fault) a b
    further_refuses wanted fault reads = placed a b (further_refusal fault) (further_named fault) (λ c. tt) (further_place fault) (site_counts _ (further_rises wanted a.site b.site fault reads))

    table_refuses : (fault : TableRefusal) → CountsProcessors a.site b.site (Err fault) → IsRefused ⊤ (refusal.Table fault) a b
    table_refuses fault counts = placed a b (refusal.Table fault) tt (λ c. tt) (table_place ℕ fault) (site_counts _ counts.count)

  module _ (rest : b ≡ work_spawner.put a b.spawner) where
    spawner_same : b.spawner.faults ≡ a.spawner.faults → SameCounts a b
    spawner_same count = record { folder = λ i. (rest i).folder.faults; site = λ i. (rest i).site.faults; spawner = count; input = λ i. (rest i).input.faults; out = λ i. (rest i).out.faults }

    spawner_counts : (failed : Bool) → RisesExactlyIf a.spawner.faults b.spawner.faults failed → RisesAt (cond failed (Some in_spawner) None) a b
    spawner_counts true count = (count.rose refl, (λ i. (rest i).folder.faults), (λ i. (rest i).site.faults), (λ i. (rest i).input.faults), (λ i. (rest i).out.faults))
    spawner_counts false count = spawner_same (count.stands refl)

    call_refuses : (settings : Settings) (fault : CallRefusal) → CallsOut settings a.spawner b.spawner (Err fault) → IsRefused ⊤ (refusal.Call fault) a b
    call_refuses settings fault calls = placed a b (refusal.Call fault) tt (λ c. tt) (call_place fault) (spawner_counts _ calls.count)

    listing_refuses : (settings : Settings) (fault : ListingRefusal) → ListsTests settings a.spawner b.spawner (Err fault) → IsRefused ⊤ (refusal.Listing fault) a b
    listing_refuses settings fault lists = placed a b (refusal.Listing fault) tt (λ c. tt) (listing_place fault) (spawner_counts _ lists.count)

    start_refuses : (plan : Planned) (fault : StartRefusal) → StartsLanes plan.jobs plan.asked a.spawner b.spawner (Err fault) → IsRefused ⊤ (refusal.Start fault) a b
    start_refuses plan fault starts = placed a b (refusal.Start fault) tt (λ c. tt) (start_place (List (Option (List Lot))) fault) (spawner_counts _ starts.sum)

    search_refuses : (settings : Settings) (candidates : List (List ℕ)) (test : List ℕ) (fault : SearchFault) → Searches settings candidates test a.spawner b.spawner (Err fault) → IsRefused ⊤ (refusal.Search fault) a b
    search_refuses settings candidates test fault searches = placed a b (refusal.Search fault) tt (λ c. tt) (search_place Found fault) (spawner_counts _ searches.count)

  -- ---- steps that touch nothing

  pattern_refuses : (fault : PatternRefusal) → b ≡ a → IsRefused ⊤ (refusal.Pattern fault) a b
  pattern_refuses fault = still_refuses a b (refusal.Pattern fault) tt (λ c. tt) refl

  untold_refuses : (fault : NoMemory) → b ≡ a → IsRefused ⊤ (refusal.Report fault) a b
  untold_refuses fault = still_refuses a b (refusal.Report fault) tt (λ c. tt) refl

  suspects_refuse : (fault : NoMemory) → b ≡ a → IsRefused ⊤ (refusal.Suspects fault) a b
  suspects_refuse fault = still_refuses a b (refusal.Suspects fault) tt (λ c. tt) refl

  long_refuses : (fault : LongId) → b ≡ a → IsRefused ⊤ (refusal.LongId fault) a b
  long_refuses fault = still_refuses a b (refusal.LongId fault) tt (λ c. tt) refl

  job_refuses : (fault : JobFault) → b ≡ a → IsRefused ⊤ (refusal.Job fault) a b
  job_refuses fault = still_refuses a b (refusal.Job fault) tt (λ c. tt) refl

-- ---- the number of workers

called_refuses : (called : Option ℕ) → SuiteRefuses (λ r. r) (UsesCalled called)
called_refuses (Some (suc less)) = value_refuses
called_refuses (Some zero) = then_refuses all (λ a b v s. site_same a b s.rest (s.at.count.stands refl)) (λ a b e s. table_refuses a b s.rest e s.at) (λ number. value_refuses)
called_refuses None = then_refuses all (λ a b v s. site_same a b s.rest (s.at.count.stands refl)) (λ a b e s. table_refuses a b s.rest e s.at) (λ number. value_refuses)

called_counts : (called : Option ℕ) → KeepsCounts all (UsesCalled called)
called_counts (Some (suc less)) = value_counts
called_counts (Some zero) = then_counts all (λ a b v s. site_same a b s.rest (s.at.count.stands refl)) (λ number. value_counts)
called_counts None = then_counts all (λ a b v s. site_same a b s.rest (s.at.count.stands refl)) (λ number. value_counts)

asked_refuses : (settings : Settings) (asked : ℕ) → SuiteRefuses (λ r. r) (UsesAsked settings asked)
asked_refuses settings (suc less) = value_refuses
asked_refuses settings zero = then_refuses all (λ a b v s. spawner_same a b s.rest (s.at.count.stands refl)) (λ a b e s. call_refuses a b s.rest settings e s.at) called_refuses

asked_counts : (settings : Settings) (asked : ℕ) → KeepsCounts all (UsesAsked settings asked)
asked_counts settings (suc less) = value_counts
asked_counts settings zero = then_counts all (λ a b v s. spawner_same a b s.rest (s.at.count.stands refl)) called_counts

workers_refuse : (settings : Settings) (parallel : Bool) (asked : ℕ) → SuiteRefuses (λ r. r) (CountsWorkers settings parallel asked)
workers_refuse settings false asked = value_refuses
workers_refuse settings true asked = asked_refuses settings asked

workers_count : (settings : Settings) (parallel : Bool) (asked : ℕ) → KeepsCounts all (CountsWorkers settings parallel asked)
workers_count settings false asked = value_counts
workers_count settings true asked = asked_counts settings asked

-- ---- the tests, and the jobs

select_refuses : (settings : Settings) (options : RunOptions) → SuiteRefuses (λ r. r) (Selects settings options)
select_refuses settings options =
    then_refuses all (λ a b v s. site_same a b s.rest (perhaps_stands (λ _ x y ids reads. reads.count.stands refl) a.site b.site v s.at)) (λ a b e s. perhaps_refused a.site b.site (λ (f : ListRefusal). IsRefused ⊤ (refusal.LoadList f) a b) (λ name f reads. list_refuses a b s.rest name f reads) e s.at) (λ listed.
    then_refuses all (λ a b v s. site_same a b s.rest (further_stands options.wanted a.site b.site v s.at)) (λ a b e s. further_refuses a b s.rest options.wanted e s.at) (λ further.
    then_refuses all (λ a b v s. folder_same a b s.rest (perhaps_stands (λ _ x y ids finds. finds.count.stands refl) a.folder b.folder v s.at)) (λ a b e s. perhaps_refused a.folder b.folder (λ (f : TellFault). IsRefused ⊤ (refusal.Tell f) a b) (λ _ f finds. tell_refuses a b s.rest f finds.count) e s.at) (λ failing.
    then_refuses all (workers_count settings options.parallel options.concurrency) (workers_refuse settings options.parallel options.concurrency) (λ workers.
    then_refuses all (λ a b v s. spawner_same a b s.rest (perhaps_stands (λ _ x y ids lists. lists.count.stands refl) a.spawner b.spawner v s.at)) (λ a b e s. perhaps_refused a.spawner b.spawner (λ (f : ListingRefusal). IsRefused ⊤ (refusal.Listing f) a b) (λ _ f lists. listing_refuses a b s.rest settings f lists) e s.at) (λ listing.
    then_refuses all (λ a b v s. still_counts a b s.same) (λ a b e s. memory_refuses a b e s.same) (λ ids.
    value_refuses))))))

select_counts : (settings : Settings) (options : RunOptions) → KeepsCounts all (Selects settings options)
select_counts settings options =
    then_counts all (λ a b v s. site_same a b s.rest (perhaps_stands (λ _ x y ids reads. reads.count.stands refl) a.site b.site v s.at)) (λ listed.
    then_counts all (λ a b v s. site_same a b s.rest (further_stands options.wanted a.site b.site v s.at)) (λ further.
    then_counts all (λ a b v s. folder_same a b s.rest (perhaps_stands (λ _ x y ids finds. finds.count.stands refl) a.folder b.folder v s.at)) (λ failing.
    then_counts all (workers_count settings options.parallel options.concurrency) (λ workers.
    then_counts all (λ a b v s. spawner_same a b s.rest (perhaps_stands (λ _ x y ids lists. lists.count.stands refl) a.spawner b.spawner v s.at)) (λ listing.
    then_counts all (λ a b v s. still_counts a b s.same) (λ ids.
    value_counts))))))

plan_refuses : (settings : Settings) (asked : Bool) (selected : Selected) → SuiteRefuses (λ r. r) (Plans settings asked selected)
plan_refuses settings asked selected =
    then_refuses all (λ a b v s. folder_same a b s.rest (perhaps_stands (λ _ x y times finds. finds.count.stands refl) a.folder b.folder v s.at)) (λ a b e s. perhaps_refused a.folder b.folder (λ (f : TellFault). IsRefused ⊤ (refusal.Tell f) a b) (λ _ f finds. tell_refuses a b s.rest f finds.count) e s.at) (λ times.
    then_refuses all (λ a b v s. still_counts a b s.same) (λ a b e s. memory_refuses a b e s.same) (λ shares.
    then_refuses all (λ a b v s. still_counts a b s.same) (λ a b e s. long_refuses a b e s.same) (λ _.
    then_refuses all (λ a b v s. still_counts a b s.same) (λ a b e s. job_refuses a b e s.same) (λ jobs.
    then_refuses all (λ a b v s. still_counts a b s.same) (λ a b e s. job_refuses a b e s.same) (λ _.
    value_refuses)))))

plan_counts : (settings : Settings) (asked : Bool) (selected : Selected) → KeepsCounts all (Plans settings asked selected)
plan_counts settings asked selected =
    then_counts all (λ a b v s. folder_same a b s.rest (perhaps_stands (λ _ x y times finds. finds.count.stands refl) a.folder b.folder v s.at)) (λ times.
    then_counts all (λ a b v s. still_counts a b s.same) (λ shares.
    then_counts all (λ a b v s. still_counts a b s.same) (λ _.
    then_counts all (λ a b v s. still_counts a b s.same) (λ jobs.
    then_counts all (λ a b v s. still_counts a b s.same) (λ _.
    value_counts)))))

-- ---- the workers, and the report

work_refuses : (partial : Bool) (number : ℕ) (plan : Planned) → SuiteRefuses (λ r. r) (Works partial number plan)
work_refuses partial number plan =
    then_refuses all (λ a b v s. begin_counts a b v s.at s.rest) (λ a b e s. begin_refuses a b e s.at s.rest) (λ _.
    then_refuses all (λ a b v s. spawner_same a b s.rest (s.at.sum.stands refl)) (λ a b e s. start_refuses a b s.rest plan e s.at) (λ rests.
    then_refuses all (λ a b v s. folder_same a b s.rest (s.at.sum.stands refl)) (λ a b e s. lanes_refuse a b s.rest rests e s.at) (λ rows.
    then_refuses all (λ a b v s. keep_counts a b partial number v s.at s.rest) (λ a b e s. keep_refuses a b partial number e s.at s.rest) (λ _.
    then_refuses all (λ a b v s. refresh_counts a b number rows v s.at s.rest) (λ a b e s. refresh_refuses a b number rows e s.at s.rest) (λ _.
    value_refuses)))))

work_counts : (partial : Bool) (number : ℕ) (plan : Planned) → KeepsCounts all (Works partial number plan)
work_counts partial number plan =
    then_counts all (λ a b v s. begin_counts a b v s.at s.rest) (λ _.
    then_counts all (λ a b v s. spawner_same a b s.rest (s.at.sum.stands refl)) (λ rests.
    then_counts all (λ a b v s. folder_same a b s.rest (s.at.sum.stands refl)) (λ rows.
    then_counts all (λ a b v s. keep_counts a b partial number v s.at s.rest) (λ _.
    then_counts all (λ a b v s. refresh_counts a b number rows v s.at s.rest) (λ _.
    value_counts)))))

report_refuses : (format : FormatKind) (number : ℕ) (filter_tags : List (List ℕ)) (rows : List Row) → SuiteRefuses (λ r. r) (TellsRun format number filter_tags rows)
report_refuses format number filter_tags rows =
    then_refuses all (λ a b v s. still_counts a b s.same) (λ a b e s. untold_refuses a b e s.same) (λ report.
    then_refuses all (λ a b v s. print_counts a b _ v s.at s.rest) (λ a b e s. print_refuses a b _ e s.at s.rest) (λ _.
    value_refuses))

report_counts : (format : FormatKind) (number : ℕ) (filter_tags : List (List ℕ)) (rows : List Row) → KeepsCounts all (TellsRun format number filter_tags rows)
report_counts format number filter_tags rows =
    then_counts all (λ a b v s. still_counts a b s.same) (λ report.
    then_counts all (λ a b v s. print_counts a b _ v s.at s.rest) (λ _.
    value_counts))

-- ---- the search for causes

among_refuses : (settings : Settings) (test : List ℕ) (candidates : List (List ℕ)) → SuiteRefuses (λ r. r) (FindsAmong settings test candidates)
among_refuses settings test candidates =
    then_refuses all (λ a b v s. spawner_same a b s.rest (s.at.count.stands refl)) (λ a b e s. search_refuses a b s.rest settings candidates test e s.at) (λ found.
    then_refuses all (λ a b v s. print_counts a b _ v s.at s.rest) (λ a b e s. print_refuses a b _ e s.at s.rest) (λ _.
    value_refuses))

among_counts : (settings : Settings) (test : List ℕ) (candidates : List (List ℕ)) → KeepsCounts all (FindsAmong settings test candidates)
among_counts settings test candidates =
    then_counts all (λ a b v s. spawner_same a b s.rest (s.at.count.stands refl)) (λ found.
    then_counts all (λ a b v s. print_counts a b _ v s.at s.rest) (λ _.
    value_counts))

cause_refuses : (settings : Settings) (number : ℕ) (one : Suspect) → SuiteRefuses (λ r. r) (FindsCause settings number one)
cause_refuses settings number one =
    then_refuses all (λ a b v s. folder_same a b s.rest (s.at.count.stands refl)) (λ a b e s. ran_refuses a b s.rest e s.at.count) (λ ids.
    among_refuses settings one.id (candidates_in one.id ids))

cause_counts : (settings : Settings) (number : ℕ) (one : Suspect) → KeepsCounts all (FindsCause settings number one)
cause_counts settings number one =
    then_counts all (λ a b v s. folder_same a b s.rest (s.at.count.stands refl)) (λ ids.
    among_counts settings one.id (candidates_in one.id ids))

each_refuses : (settings : Settings) (number : ℕ) (left : List Suspect) → SuiteRefuses (λ r. r) (FindsEach settings number left)
each_refuses settings number [] = value_refuses
each_refuses settings number (one ∷ more) = then_refuses all (cause_counts settings number one) (cause_refuses settings number one) (λ _. each_refuses settings number more)

each_counts : (settings : Settings) (number : ℕ) (left : List Suspect) → KeepsCounts all (FindsEach settings number left)
each_counts settings number [] = value_counts
each_counts settings number (one ∷ more) = then_counts all (cause_counts settings number one) (λ _. each_counts settings number more)

causes_refuse : (asked : Bool) (settings : Settings) (number : ℕ) (rows : List Row) → SuiteRefuses (λ r. r) (FindsCauses asked settings number rows)
causes_refuse false settings number rows = value_refuses
causes_refuse true settings number rows =
    then_refuses all (λ a b v s. still_counts a b s.same) (λ a b e s. suspects_refuse a b e s.same) (λ suspects.
    each_refuses settings number suspects)

causes_count : (asked : Bool) (settings : Settings) (number : ℕ) (rows : List Row) → KeepsCounts all (FindsCauses asked settings number rows)
causes_count false settings number rows = value_counts
causes_count true settings number rows =
    then_counts all (λ a b v s. still_counts a b s.same) (λ suspects.
    each_counts settings number suspects)

finds_refuse : (format : FormatKind) (asked : Bool) (settings : Settings) (number : ℕ) (rows : List Row) → SuiteRefuses (λ r. r) (TellsAndFinds format asked settings number rows)
finds_refuse format asked settings number rows =
    then_refuses all (report_counts format number settings.filter_tags rows) (report_refuses format number settings.filter_tags rows) (λ verdict.
    then_refuses all (causes_count asked settings number rows) (causes_refuse asked settings number rows) (λ _.
    value_refuses))

finds_count : (format : FormatKind) (asked : Bool) (settings : Settings) (number : ℕ) (rows : List Row) → KeepsCounts all (TellsAndFinds format asked settings number rows)
finds_count format asked settings number rows =
    then_counts all (report_counts format number settings.filter_tags rows) (λ verdict.
    then_counts all (causes_count asked settings number rows) (λ _.
    value_counts))

-- ---- the commands

list_by_refuses : (wanted : Wanted) (settings : Settings) → SuiteRefuses (λ r. r) (ListsBy wanted settings)
list_by_refuses wanted settings =
    then_refuses all (λ a b v s. still_counts a b s.same) (λ a b e s. pattern_refuses a b e s.same) (λ _.
    then_refuses all (λ a b v s. site_same a b s.rest (further_stands wanted a.site b.site v s.at)) (λ a b e s. further_refuses a b s.rest wanted e s.at) (λ further.
    then_refuses all (λ a b v s. spawner_same a b s.rest (s.at.count.stands refl)) (λ a b e s. listing_refuses a b s.rest settings e s.at) (λ ids.
    then_refuses all (λ a b v s. still_counts a b s.same) (λ a b e s. memory_refuses a b e s.same) (λ text.
    then_refuses all (λ a b v s. print_counts a b text v s.at s.rest) (λ a b e s. print_refuses a b text e s.at s.rest) (λ _.
    value_refuses)))))

list_by_counts : (wanted : Wanted) (settings : Settings) → KeepsCounts all (ListsBy wanted settings)
list_by_counts wanted settings =
    then_counts all (λ a b v s. still_counts a b s.same) (λ _.
    then_counts all (λ a b v s. site_same a b s.rest (further_stands wanted a.site b.site v s.at)) (λ further.
    then_counts all (λ a b v s. spawner_same a b s.rest (s.at.count.stands refl)) (λ ids.
    then_counts all (λ a b v s. still_counts a b s.same) (λ text.
    then_counts all (λ a b v s. print_counts a b text v s.at s.rest) (λ _.
    value_counts)))))

run_by_refuses : (options : RunOptions) (settings : Settings) → SuiteRefuses (λ r. r) (RunsBy options settings)
run_by_refuses options settings =
    then_refuses all (λ a b v s. open_counts a b v s.at s.rest) (λ a b e s. open_refuses a b e s.at s.rest) (λ found.
    then_refuses all (λ a b v s. still_counts a b s.same) (λ a b e s. runs_refuse a b e s.same) (λ _.
    then_refuses all (λ a b v s. still_counts a b s.same) (λ a b e s. pattern_refuses a b e s.same) (λ _.
    then_refuses all (select_counts settings options) (select_refuses settings options) (λ selected.
    then_refuses all (plan_counts settings options.find_causes selected) (plan_refuses settings options.find_causes selected) (λ plan.
    then_refuses all (work_counts _ _ plan) (work_refuses _ _ plan) (λ rows.
    finds_refuse options.format options.find_causes settings _ rows))))))

run_by_counts : (options : RunOptions) (settings : Settings) → KeepsCounts all (RunsBy options settings)
run_by_counts options settings =
    then_counts all (λ a b v s. open_counts a b v s.at s.rest) (λ found.
    then_counts all (λ a b v s. still_counts a b s.same) (λ _.
    then_counts all (λ a b v s. still_counts a b s.same) (λ _.
    then_counts all (select_counts settings options) (λ selected.
    then_counts all (plan_counts settings options.find_causes selected) (λ plan.
    then_counts all (work_counts _ _ plan) (λ rows.
    finds_count options.format options.find_causes settings _ rows))))))

pub list_refused : (options : ListOptions) → SuiteRefuses (λ r. r) (ListsSuite options)
list_refused options = then_refuses all (λ a b v s. site_same a b s.rest (s.at.count.stands refl)) (λ a b e s. conf_refuses a b s.rest options.project e s.at) (list_by_refuses options.wanted)

pub run_refused : (options : RunOptions) → SuiteRefuses (λ r. r) (RunsSuite options)
run_refused options = then_refuses all (λ a b v s. site_same a b s.rest (s.at.count.stands refl)) (λ a b e s. conf_refuses a b s.rest options.project e s.at) (run_by_refuses options)

pub list_counted : (options : ListOptions) → KeepsCounts all (ListsSuite options)
list_counted options = then_counts all (λ a b v s. site_same a b s.rest (s.at.count.stands refl)) (list_by_counts options.wanted)

pub run_counted : (options : RunOptions) → KeepsCounts all (RunsSuite options)
run_counted options = then_counts all (λ a b v s. site_same a b s.rest (s.at.count.stands refl)) (run_by_counts options)

-- ---- the workers in memory

pub selftest_refused : (drawing : SelfTestWords) → RefusesAs all ⊥ (λ r. r) (TestsItself drawing)
selftest_refused drawing =
    then_refuses all (λ a b v s. still_counts a b s.same) (λ a b e s. memory_refuses a b e s.same) (λ told.
    then_refuses all (λ a b v s. print_counts a b _ v s.at s.rest) (λ a b e s. print_refuses a b _ e s.at s.rest) (λ _.
    gives_refuses all ⊥))

pub selftest_counted : (drawing : SelfTestWords) → KeepsCounts all (TestsItself drawing)
selftest_counted drawing =
    then_counts all (λ a b v s. still_counts a b s.same) (λ told.
    then_counts all (λ a b v s. print_counts a b _ v s.at s.rest) (λ _.
    value_counts))
