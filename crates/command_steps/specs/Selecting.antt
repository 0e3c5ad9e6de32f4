-- The steps of `run` that say which tests run, in how many workers, and what each worker is started with.
use Rattle.suite_run.specs.NoneLost.{AreAllShort}
use Rattle.command_steps.specs.declared.work_plan.WorkPlan.{WorkPlan}
use Rattle.command_steps.specs.declared.work_plan.LongId.{LongId}
use Rattle.std.specs.Prelude.{◌≡◌, ◌⊎◌, ℕ, zero, suc, Bool, true, false, not, ◌&&◌, ◌||◌, nat_lt, min, is_some, Option, Some, None, List, [], length, Result, Ok, Err, IfOk, IfErr, OnOk}
use Rattle.std.specs.FinMap as fin
use Rattle.std.specs.FinMap.{FinMap}
use Rattle.std.specs.Option.{option_map, unwrap_or}
use Rattle.outcome_fold.specs.Order.{text_cmp}
use Rattle.edge_io.specs.Disk.{Files}
use Rattle.edge_io.specs.Seen.{Seen}
use Rattle.edge_io.specs.declared.job.Job.{Job}
use Rattle.sub_number.specs.declared.memory.NoMemory.{NoMemory}
use Rattle.testr_conf.specs.Settings.{Settings}
use Rattle.testr_conf.specs.declared.fault.JobFault.{JobFault}
use Rattle.testr_conf.specs.declared.fault.JobFault.TheVariants as job_fault
use Rattle.suite_causes.specs.Searching.{CanHandIds, probe_job}
use Rattle.suite_plan.specs.Calling.{CallsOut}
pub use Rattle.suite_plan.specs.Choosing.{Ids}
use Rattle.suite_plan.specs.Choosing.{base_ids, chosen_ids, with_further}
use Rattle.suite_plan.specs.LaneJobs.{lane_jobs}
use Rattle.suite_plan.specs.Listing.{ListsTests}
use Rattle.suite_plan.specs.LoadList.{ReadsLoadList}
use Rattle.suite_plan.specs.PatternList.{ReadsPatternList}
use Rattle.suite_plan.specs.Processors.{CountsProcessors}
use Rattle.suite_plan.specs.Sharing.{ids_of_shard, shares_for}
use Rattle.suite_plan.specs.declared.pattern_list.PatternListRefusal.TheVariants as pattern_list
use Rattle.suite_plan.specs.declared.picks.Picks.{Picks}
use Rattle.suite_plan.specs.declared.worker_shares.TheConstants.{MOST_WORKERS}
use Rattle.command_steps.specs.Asking.{FindsFailing, FindsTimes}
use Rattle.command_steps.specs.Outside.{Work, work_folder, work_site, work_spawner}
use Rattle.command_steps.specs.Perhaps.{when, Perhaps}
use Rattle.command_steps.specs.Steps.{Step, Then, Still, Gives, At}
use Rattle.testr_words.specs.Suites.{Wanted, RunOptions, is_choosing}
use Rattle.command_steps.specs.declared.answer.Refusal.{Refusal}
use Rattle.command_steps.specs.TimesFile.{ReadsTimes}
use Rattle.command_steps.specs.declared.test_selection.Further.{Further}
use Rattle.command_steps.specs.declared.test_selection.FurtherRefusal.{FurtherRefusal}
use Rattle.command_steps.specs.declared.test_selection.FurtherRefusal.TheVariants as further
use Rattle.command_steps.specs.declared.test_selection.Selected.{Selected}
use Rattle.command_steps.specs.declared.answer.Refusal.TheVariants.{LoadList, PatternLine, TimesFile, Tell, Call, Table, Listing, Memory, Job as JobRefused, LongId as TooLong}

-- ---- the number of workers

-- the number that the project's own command called out; where it called out none, or 0, that of the processors
abbrev pub UsesCalled : Option ℕ → Step Work ℕ Refusal
UsesCalled (Some (suc less)) = Gives (min (suc less) MOST_WORKERS)
UsesCalled (Some zero) = Then Table (At work_site CountsProcessors) (λ number. Gives number)
UsesCalled None = Then Table (At work_site CountsProcessors) (λ number. Gives number)

-- the number that the words say, unless that is 0
abbrev pub UsesAsked : Settings → ℕ → Step Work ℕ Refusal
UsesAsked settings (suc less) = Gives (min (suc less) MOST_WORKERS)
UsesAsked settings zero = Then Call (At work_spawner (CallsOut settings)) UsesCalled

-- one worker, unless the tests run side by side
abbrev pub CountsWorkers : Settings → (parallel : Bool) → (asked : ℕ) → Step Work ℕ Refusal
CountsWorkers settings false asked = Gives 1
CountsWorkers settings true asked = UsesAsked settings asked

-- ---- which tests

-- the patterns of the words
abbrev pub picks_of : Wanted → Picks
picks_of wanted = record { including = wanted.patterns; excluding = wanted.excluded }

-- why a file that stands beside the words was not taken, as a refusal
abbrev pub further_refusal : FurtherRefusal → Refusal
further_refusal (further.Patterns (pattern_list.List refusal)) = LoadList refusal
further_refusal (further.Patterns (pattern_list.Bad line)) = PatternLine line
further_refusal (further.Times refusal) = TimesFile refusal

-- the times as a map
abbrev pub TimesById : Type 0
TimesById = FinMap text_cmp ℕ

-- the steps that read the lists of further patterns, and the file of times, where they are named
abbrev pub ReadsFurther : Wanted → Step (Seen Files) Further FurtherRefusal
ReadsFurther wanted =
    Then further.Patterns (Perhaps wanted.include_list ReadsPatternList) (λ including.
    Then further.Patterns (Perhaps wanted.exclude_list ReadsPatternList) (λ excluding.
    Then further.Times (Perhaps wanted.times ReadsTimes) (λ times.
    Gives (record { picks = record { including = including; excluding = excluding }; times = times }))))

-- ids are given neither by the failing set nor by a file, and are wanted by a pattern, by a list of patterns, for a shard or by several workers
abbrev pub needs_listing : RunOptions → (workers : ℕ) → Bool
needs_listing options workers = not options.failing && not (is_some options.load_list) && (is_choosing options.wanted || nat_lt 1 workers)

-- of the ids that are given, those that are wanted by these patterns, each once
pub record Chooses (picks : Picks) (failing listed listing : Option Ids) (result : Result (Option Ids) NoMemory) : Type 0 where
  pub chosen : IfOk result (λ ids. ids ≡ chosen_ids picks (base_ids failing listed listing))

-- the steps that find which tests a run has, and in how many workers they run
abbrev pub Selects : Settings → RunOptions → Step Work Selected Refusal
Selects settings options =
    Then LoadList (At work_site (Perhaps options.load_list ReadsLoadList)) (λ listed.
    Then further_refusal (At work_site (ReadsFurther options.wanted)) (λ further.
    Then Tell (At work_folder (Perhaps (when options.failing) (λ _. FindsFailing))) (λ failing.
    Then (λ refusal. refusal) (CountsWorkers settings options.parallel options.concurrency) (λ workers.
    Then Listing (At work_spawner (Perhaps (when (needs_listing options workers)) (λ _. ListsTests settings))) (λ listing.
    Then Memory (Still (Chooses (with_further (picks_of options.wanted) further.picks) failing listed listing)) (λ ids.
    Gives (record { workers = workers; ids = ids; shard = options.wanted.shard; times = further.times })))))))

-- ---- what each worker is started with

-- the times of the repository are wanted where there are several workers and no file gives them
abbrev pub wants_times : Selected → Bool
wants_times selected = not (is_some selected.times) && nat_lt 1 selected.workers

-- The times that shards go by: those of the file, or none. Those of a repository are not among them, so runs that come between
-- change no shard.
abbrev pub shard_times : (given : Option TimesById) → TimesById
shard_times given = unwrap_or given fin.empty

-- the times that the shares of workers go by: those of the file, or those of the repository, or none
abbrev pub worker_times : (given known : Option TimesById) → TimesById
worker_times given known = unwrap_or given (unwrap_or known fin.empty)

-- of the ids those of the shard, and of these the shares
abbrev pub shares_in_shard : (groups : Option (List ℕ)) → Option TimesById → Selected → Ids → List Ids
shares_in_shard groups times selected ids =
    shares_for (fin.get (worker_times selected.times times)) groups (ids_of_shard (fin.get (shard_times selected.times)) groups selected.shard ids) selected.workers

-- the shares of the ids, where ids are given
abbrev pub shares_of_ids : (groups : Option (List ℕ)) → Option TimesById → Selected → Option (List Ids)
shares_of_ids groups times selected = option_map (shares_in_shard groups times selected) selected.ids

-- the share of each worker, where the tests are known
pub record Divides (groups : Option (List ℕ)) (times : Option TimesById) (selected : Selected) (result : Result (Option (List Ids)) NoMemory) : Type 0 where
  pub shares : IfOk result (λ shares. shares ≡ shares_of_ids groups times selected)

-- the ids of each share; none, where there are no shares
abbrev pub ids_of_shares : Option (List Ids) → List Ids
ids_of_shares None = []
ids_of_shares (Some shares) = shares

-- what the workers are started with: a job for each, and the ids that each job names
pub record Planned : Type 0 where
  pub jobs : List Job
  pub asked : List Ids

-- Each id of the shares is one that can be told of, should its worker lose it; or one is too long for that.
pub record NamesIds (shares : Option (List Ids)) (result : Result (Unit {0}) LongId) : Type 0 where
  pub named : OnOk result (AreAllShort (ids_of_shares shares))
  pub refused : IfErr result (λ _. AreAllShort (ids_of_shares shares) → ⊥)

-- the jobs are those of the lanes, or the first that is refused decides
pub record MakesJobs (settings : Settings) (shares : Option (List Ids)) (result : Result (List Job) JobFault) : Type 0 where
  pub jobs : IfOk result (λ jobs. lane_jobs settings shares ≡ Ok jobs)
  pub refused : IfErr result (λ fault. (lane_jobs settings shares ≡ Err fault) ⊎ (fault ≡ job_fault.NoMemory))

-- Where causes are looked for, ids can be handed to a probe, or the option that is missing for it is told. Where they are not, it
-- is not asked.
pub record HandsIds (asked : Bool) (settings : Settings) (result : Result (Unit {0}) JobFault) : Type 0 where
  pub handed : asked ≡ true → OnOk result (CanHandIds settings)
  pub refused : IfErr result (λ fault. (asked ≡ true) × ((probe_job settings [] ≡ Err fault) ⊎ (fault ≡ job_fault.NoMemory)))
  pub exactly : asked ≡ true → IfErr (probe_job settings []) (λ fault. (result ≡ Err fault) ⊎ (result ≡ Err job_fault.NoMemory))

-- the answer, of what was planned the jobs and the ids that they name
abbrev pub planned_in : {E : Type 0} → Result WorkPlan E → Result Planned E
planned_in (Ok plan) = Ok (record { jobs = plan.jobs.items; asked = plan.asked.items })
planned_in (Err fault) = Err fault

-- the steps that make the job of each worker, and ask for that of a probe where causes are looked for
abbrev pub Plans : Settings → (find_causes : Bool) → Selected → Step Work Planned Refusal
Plans settings find_causes selected =
    Then Tell (At work_folder (Perhaps (when (wants_times selected)) (λ _. FindsTimes))) (λ times.
    Then Memory (Still (Divides settings.group_regex times selected)) (λ shares.
    Then TooLong (Still (NamesIds shares)) (λ _.
    Then JobRefused (Still (MakesJobs settings shares)) (λ jobs.
    Then JobRefused (Still (HandsIds find_causes settings)) (λ _.
    Gives (record { jobs = jobs; asked = ids_of_shares shares }))))))
