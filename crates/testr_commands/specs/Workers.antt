-- The workers of a run: why their jobs are these, which of them were started, what is recorded of their outputs, what was
-- searched behind that, and what was printed.
use Rattle.std.specs.Prelude.{◌≡◌, ◌⊎◌, ℕ, ◌≤◌, Option, IfSome, All, List, ◌++◌, length, Ok}
use Rattle.edge_io.specs.Children.{Output}
use Rattle.edge_io.specs.Spawners.{Spawning}
use Rattle.edge_io.specs.Steps.{Goes}
use Rattle.edge_io.specs.declared.job.Job.{Job}
use Rattle.outcome_fold.specs.Routes.{SaySame}
use Rattle.outcome_fold.specs.Rows.{rows_of}
use Rattle.packet_codec.specs.Canonical.{IsEvent, Fits}
use Rattle.packet_codec.specs.Lanes.{IsOfLaneBelow, IsMerge, joined}
use Rattle.packet_codec.specs.declared.event.Event.{Event}
use Rattle.run_shelf.specs.Repository.{Run, Shows}
use Rattle.command_steps.specs.Reporting.{report_for}
use Rattle.suite_plan.specs.ConfFile.{GivesSettings}
use Rattle.suite_run.specs.Starting.{StartsAll}
use Rattle.testr_conf.specs.Settings.{Settings}
use Rattle.worker_mux.specs.Outputs.{lists_asked}
use Rattle.testr_commands.specs.Searches.{SearchesSome, TakesFirst}
use Rattle.command_steps.specs.Outside.{Work, work_folder}
use Rattle.command_steps.specs.Runs.{KeepsFiles}
use Rattle.command_steps.specs.Selecting.{Selects, Planned, Plans}
use Rattle.testr_words.specs.Suites.{RunOptions}
use Rattle.command_steps.specs.declared.test_selection.Selected.{Selected}

-- The jobs of a run: by the project's configuration tests and a number of workers were selected, and a job was made for each
-- worker.
pub record HasPlanned (options : RunOptions) (before planning : Work) (plan : Planned) : Type 0 where
  pub settings : Settings
  pub conf : IfSome before.site.told (GivesSettings options.project settings)
  -- the folder was opened, and reads give the files as before
  pub opened : Work
  pub opened_is : opened ≡ work_folder.put before opened.folder
  pub opened_files : Goes before.folder.told opened.folder.told KeepsFiles
  -- the tests and the number of workers were selected
  pub selected : Selected
  pub selecting : Work
  pub selects : Selects settings options opened selecting (Ok selected)
  -- the jobs were made
  pub plans : Plans settings options.find_causes selected selecting planning (Ok plan)
  pub few : length plan.jobs ≤ 64

-- Up to the moment `worked` these jobs were started, in this order, and no others behind the choice of the tests; the first
-- outputs to come then are the workers', and what comes later is left. There are events, each under one of the lanes; where the outputs are told they
-- are a merge of what is recorded of each, and of the ids that its job names: all of it, once and in order under its lane, and nothing else. Behind the workers,
-- where causes are looked for, some first tests of those that fail were searched, and nothing else was started.
pub record RunsWorkers (options : RunOptions) (before after : Work) : Type 0 where
  pub plan : Planned
  pub planning : Work
  pub planned : HasPlanned options before planning plan
  pub outputs : List Output
  pub worked : Option Spawning
  pub started : Goes planning.spawner.told worked (StartsAll plan.jobs outputs)
  pub events : List Event
  pub are_events : All IsEvent events
  pub fit : All Fits events
  pub of_lanes : All (IsOfLaneBelow (length plan.jobs)) events
  pub merged : IfSome before.spawner.told (λ _. IsMerge events (lists_asked 0 plan.asked outputs))
  -- so they say the same as the events of the outputs one after another
  pub in_turn : IfSome before.spawner.told (λ _. SaySame events (joined (lists_asked 0 plan.asked outputs)))
  -- and what was searched behind them, with the lines of the tests that came to a verdict
  pub lines : List ℕ
  pub probed : SearchesSome options.find_causes planned.settings events lines before.folder.told worked after.spawner.told

-- ---- at every exit

-- no worker was started, and of others so many at most
pub record AsksFew (most : ℕ) (s t : Spawning) : Type 0 where
  pub asked : List Job
  pub few : length asked ≤ most
  pub started : t.started ≡ s.started ++ asked

-- workers were started for some first jobs, in their order
pub record StartsFirst (options : RunOptions) (before after : Work) : Type 0 where
  pub plan : Planned
  pub planning : Work
  pub planned : HasPlanned options before planning plan
  pub done : List Job
  pub more : List Job
  pub jobs_are : plan.jobs ≡ done ++ more
  pub outputs : List Output
  pub started : Goes planning.spawner.told after.spawner.told (StartsAll done outputs)

-- Before the workers two may be started: the one that tells how many there are, and the one that lists the tests. Then come the
-- workers, and behind all of them the probes.
abbrev pub StartsInOrder : RunOptions → Work → Work → Type 0
StartsInOrder options before after = Goes before.spawner.told after.spawner.told (AsksFew 2) ⊎ (StartsFirst options before after ⊎ RunsWorkers options before after)

-- the output took a first part of the report of the workers' run, or all of it and a first part of the lines behind it
pub record PrintsFirst (options : RunOptions) (before after : Work) : Type 0 where
  pub workers : RunsWorkers options before after
  pub printed : IfSome before.folder.told (λ s. (runs : List Run) → Shows s.disk.published runs → TakesFirst (report_for options.format (rows_of workers.events) (length runs) workers.planned.settings.filter_tags) workers.lines workers.worked after.spawner.told before.out.told after.out.told)

-- What a run has started and printed at each exit.
pub record LeavesRun (options : RunOptions) (before after : Work) : Type 0 where
  pub started : StartsInOrder options before after
  pub printed : (after.out.told ≡ before.out.told) ⊎ PrintsFirst options before after
