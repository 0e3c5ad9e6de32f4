-- What `list-tests` and `run` do, and what they need to be done. The promise of a run is the run theorem.
use Rattle.suite_run.specs.NoneLost.{AreAllShort, LoseNone}
use Rattle.std.specs.Prelude.{◌≡◌, ⊤, ℕ, zero, suc, ◌≤◌, ◌<◌, pos, Bool, true, Option, Some, None, IfSome, IsSomeAnd, All, List, [], ◌∷◌, ◌++◌, length, IsOk}
use Rattle.std.specs.Io.KnownBytes.{Appends}
use Rattle.edge_io.specs.Children.{Output}
use Rattle.edge_io.specs.Spawners.{Spawning}
use Rattle.edge_io.specs.Steps.{Goes}
use Rattle.edge_io.specs.declared.child.Finish.TheVariants.{Exit}
use Rattle.edge_io.specs.declared.job.Job.{Job}
use Rattle.outcome_fold.specs.Answers.{status_of}
use Rattle.outcome_fold.specs.Rows.{rows_of}
use Rattle.partition_times.specs.Patterns.{IsPattern}
use Rattle.run_shelf.specs.Repository.{Run, Shows, most_runs}
use Rattle.command_steps.specs.Reporting.{report_for}
use Rattle.suite_causes.specs.Searching.{CanHandIds}
use Rattle.suite_plan.specs.Calling.{TellsNumber}
use Rattle.suite_plan.specs.Choosing.{Ids}
use Rattle.suite_plan.specs.ConfFile.{GivesSettings}
use Rattle.suite_plan.specs.Listing.{ListsSo}
use Rattle.suite_plan.specs.LoadList.{IsLoadList}
use Rattle.suite_plan.specs.Processors.{table_name}
use Rattle.suite_plan.specs.Texts.{most_text}
use Rattle.command_steps.specs.declared.test_selection.Further.{Further}
use Rattle.testr_conf.specs.Jobs.{count_job_of, list_job_of, run_job_of, id_lines}
use Rattle.testr_conf.specs.Settings.{Settings}
use Rattle.command_steps.specs.Outside.{Work}
use Rattle.command_steps.specs.Refreshing.{BringsCaches}
use Rattle.command_steps.specs.Runs.{HasRuns, AddsRun}
use Rattle.testr_commands.specs.Further.{GivesFurther, CanReadFurther}
use Rattle.testr_commands.specs.Searches.{ProbesEnd, SearchesAll}
use Rattle.testr_commands.specs.Prospects.{MayCount, MaySelect, MayPlan}
use Rattle.testr_commands.specs.RunSuite.{groups_for, listed_ids}
use Rattle.command_steps.specs.Selecting.{needs_listing, TimesById, ids_of_shares, shares_of_ids, Planned}
use Rattle.testr_words.specs.Suites.{ListOptions, RunOptions, is_partial}
use Rattle.testr_commands.specs.Workers.{RunsWorkers}
use Rattle.command_steps.specs.declared.test_selection.Selected.{Selected}

-- ---- `list-tests`

-- The listing of the project's own configuration gave these ids, those that are wanted were printed, of a shard its own, each
-- on a line, and nothing else happened.
pub record ListsAll (options : ListOptions) (before after : Work) (answer : ℕ) : Type 0 where
  pub settings : Settings
  pub conf : IfSome before.site.told (GivesSettings options.project settings)
  pub further : Further
  pub lists : GivesFurther options.wanted further before.site.told
  pub ids : Ids
  pub listed : Goes before.spawner.told after.spawner.told (ListsSo settings ids)
  pub printed : Appends before.out.told after.out.told (id_lines (listed_ids options.wanted settings further ids))
  pub status : answer ≡ 0
  pub folder : after.folder ≡ before.folder
  pub input : after.input ≡ before.input

-- ---- `run`

-- The run theorem. By the project's configuration tests were selected, and a job was made for each worker. These jobs were
-- started; their outputs are the workers'. Whatever runs the folder showed, it shows one run more, and so does what each
-- later stop leaves: its packets are those of events that are each under one of the lanes, and where the outputs are told
-- they are a merge of what is recorded of each: all of it, once and in order under its lane. No test vanishes: each id that a
-- job names is the id of a row, or the job's worker ended with 0. The report of the run's rows was printed and the status is theirs; both are those of the workers read one after another. Where causes are looked for, each
-- test that fails was searched behind that, and its line stands behind the report. Where the files were sound, the caches are
-- those of all runs.
pub record RunsAll (options : RunOptions) (before after : Work) (answer : ℕ) : Type 0 where
  pub workers : RunsWorkers options before after
  pub stored : Goes before.folder.told after.folder.told (AddsRun (is_partial options) workers.events)
  pub cached : Goes before.folder.told after.folder.told BringsCaches
  pub printed : IfSome before.folder.told (λ s. (runs : List Run) → Shows s.disk.published runs → Appends before.out.told after.out.told (report_for options.format (rows_of workers.events) (length runs) workers.planned.settings.filter_tags ++ workers.lines))
  pub found : SearchesAll options.find_causes workers.planned.settings workers.events workers.lines before.folder.told workers.worked after.spawner.told
  pub none_lost : IfSome before.spawner.told (λ _. LoseNone (rows_of workers.events) workers.plan.asked workers.outputs)
  pub status : answer ≡ status_of (rows_of workers.events)
  pub input : after.input ≡ before.input

-- ---- completeness

-- how many children are asked for the number of workers: one where the words leave it open and the project has a command
-- that tells it, else none
abbrev pub calls_by : (parallel : Bool) → (asked : ℕ) → (count_job : Option Job) → ℕ
calls_by true zero (Some job) = 1
calls_by parallel asked count_job = 0

-- how many programs a run starts to ask for the number of workers
abbrev pub worker_count_calls : RunOptions → Settings → ℕ
worker_count_calls options settings = calls_by options.parallel options.concurrency (count_job_of settings)

-- the child behind so many others ends with 0
abbrev pub EndsWell : ℕ → Spawning → Type 0
EndsWell count s = (front : List Output) (output : Output) (later : List Output) → s.outputs ≡ front ++ output ∷ later → length front ≡ count → output.finish ≡ Exit (pos 0)

-- the first child tells a number, where one is asked
abbrev pub CountIsTold : ℕ → Spawning → Type 0
CountIsTold zero s = ⊤
CountIsTold (suc more) s = (output : Output) (later : List Output) → s.outputs ≡ output ∷ later → (number : ℕ) × TellsNumber number output

-- No number over 0 is called out: no child is asked for one, or the first child tells 0.
abbrev pub CallsOutNone : (count_job : Option Job) → Spawning → Type 0
CallsOutNone None s = ⊤
CallsOutNone (Some job) s = (output : Output) × (later : List Output) × (s.outputs ≡ output ∷ later) × TellsNumber 0 output

-- where there is some id, ids can be handed to a worker of each lane
abbrev pub CanHand : Settings → Ids → Type 0
CanHand settings ids = (ids ≡ [] → ⊥) → (share : Ids) (lane : ℕ) → IsOk (run_job_of settings (Some share) lane)

-- The configuration is there, the patterns are good and their lists can be read, it has a listing, and the listing ends with 0.
-- For a shard the pattern of the groups is good, too.
pub record CanList (options : ListOptions) (before : Work) : Type 0 where
  pub settings : Settings
  pub conf : IsSomeAnd before.site.told (GivesSettings options.project settings)
  pub good : All IsPattern (options.wanted.patterns ++ options.wanted.excluded)
  pub good_regex : IfSome (groups_for options.wanted.shard settings) IsPattern
  pub lists : CanReadFurther options.wanted before.site.told
  pub job : IsOk (list_job_of settings)
  pub ends : IsSomeAnd before.spawner.told (EndsWell 0)

-- The same of a run. There is room for one, the lists of ids and patterns can be read, so can the table of processors where the number of
-- workers is neither said nor called out. Where the tests are listed, by the number of workers that was found, there is a
-- listing, and it ends with 0. Where ids are left to run, they can be handed to a worker, and none is too long, by whichever times they are shared out. Where causes are looked for, ids can be
-- handed to a probe, and no probe's child is broken.
pub record CanRun (options : RunOptions) (before : Work) : Type 0 where
  pub settings : Settings
  pub conf : IsSomeAnd before.site.told (GivesSettings options.project settings)
  pub free : IsSomeAnd before.folder.told (λ s. (number : ℕ) × (number < most_runs) × HasRuns number s)
  pub good : All IsPattern (options.wanted.patterns ++ options.wanted.excluded)
  pub good_regex : IfSome settings.group_regex IsPattern
  pub load_list : IfSome options.load_list (λ name. IsSomeAnd before.site.told (λ files. (ids : Ids) × IsLoadList name ids files))
  pub lists : CanReadFurther options.wanted before.site.told
  pub table : options.parallel ≡ true → options.concurrency ≡ 0 → IsSomeAnd before.spawner.told (CallsOutNone (count_job_of settings)) → IsSomeAnd before.site.told (λ files. IfSome (files table_name) (λ text. length text ≤ most_text))
  pub count : IsSomeAnd before.spawner.told (CountIsTold (worker_count_calls options settings))
  pub job : (workers : ℕ) → MayCount settings options before.site.told before.spawner.told workers → needs_listing options workers ≡ true → IsOk (list_job_of settings)
  pub ends : (workers : ℕ) → MayCount settings options before.site.told before.spawner.told workers → needs_listing options workers ≡ true → IsSomeAnd before.spawner.told (EndsWell (worker_count_calls options settings))
  pub handed : (selected : Selected) → MaySelect settings options before selected → IfSome selected.ids (CanHand settings)
  pub named : (times : Option TimesById) (selected : Selected) → MaySelect settings options before selected → AreAllShort (ids_of_shares (shares_of_ids settings.group_regex times selected))
  pub hands_ids : options.find_causes ≡ true → CanHandIds settings
  pub probes : options.find_causes ≡ true → (plan : Planned) (planning : Work) → MayPlan settings options before plan planning → IfSome planning.spawner.told (ProbesEnd plan)
