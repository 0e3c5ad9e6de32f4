-- What the steps that select the tests of a run may find: how many workers, and which ids.
use Rattle.std.specs.Prelude.{◌≡◌, ℕ, Option, List, Ok}
use Rattle.edge_io.specs.Disk.{Files}
use Rattle.edge_io.specs.Spawners.{Spawning}
use Rattle.edge_io.specs.Steps.{Goes}
use Rattle.edge_io.specs.declared.job.Job.{Job}
use Rattle.testr_conf.specs.Settings.{Settings}
use Rattle.command_steps.specs.Outside.{Work}
use Rattle.command_steps.specs.Runs.{KeepsFiles}
use Rattle.command_steps.specs.Selecting.{CountsWorkers, Selects, Planned, Plans}
use Rattle.testr_words.specs.Suites.{RunOptions}
use Rattle.command_steps.specs.declared.test_selection.Selected.{Selected}

-- so many workers may be found, over these files and these children
pub record MayCount (settings : Settings) (options : RunOptions) (site : Option Files) (children : Option Spawning) (workers : ℕ) : Type 0 where
  pub start : Work
  pub site_is : start.site.told ≡ site
  pub children_are : start.spawner.told ≡ children
  pub counted : Work
  pub counts : CountsWorkers settings options.parallel options.concurrency start counted (Ok workers)

-- This may be selected, over this outside: its files, its children, and a folder of which reads give the same.
pub record MaySelect (settings : Settings) (options : RunOptions) (before : Work) (selected : Selected) : Type 0 where
  pub start : Work
  pub folder : Goes before.folder.told start.folder.told KeepsFiles
  pub site_is : start.site.told ≡ before.site.told
  pub children_are : start.spawner.told ≡ before.spawner.told
  pub selecting : Work
  pub selects : Selects settings options start selecting (Ok selected)

-- This may be planned for the workers, over this outside, and this is the outside then.
pub record MayPlan (settings : Settings) (options : RunOptions) (before : Work) (plan : Planned) (planning : Work) : Type 0 where
  pub selected : Selected
  pub may : MaySelect settings options before selected
  pub plans : Plans settings options.find_causes selected may.selecting planning (Ok plan)
