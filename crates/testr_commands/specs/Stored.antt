-- The run that a command has kept, whatever refuses behind that.
use Rattle.std.specs.Prelude.{ℕ, All, List, Option, Some}
use Rattle.edge_io.specs.Steps.{Goes}
use Rattle.packet_codec.specs.Grammar.{AreBytes}
use Rattle.packet_codec.specs.declared.event.Event.{Event}
use Rattle.command_steps.specs.Files.{AreSources, HasRecordedInTurn}
use Rattle.command_steps.specs.Outside.{Work}
use Rattle.command_steps.specs.Runs.{AddsRun}
use Rattle.testr_words.specs.Suites.{LoadOptions, RunOptions, is_partial}
use Rattle.testr_words.specs.Tasks.{Task, load, run}
use Rattle.testr_commands.specs.Workers.{RunsWorkers}

-- Whatever runs the folder showed, it shows one more, of what is recorded of the sources in turn, and so does what each later stop
-- leaves.
pub record StoresLoad (options : LoadOptions) (names : List (List ℕ)) (before after : Work) : Type 0 where
  pub sources : List (List ℕ)
  pub are_sources : AreSources names before.site.told before.input.told sources
  pub are_bytes : All AreBytes sources
  pub events : List Event
  pub recorded : HasRecordedInTurn 0 sources events
  pub stored : Goes before.folder.told after.folder.told (AddsRun options.partial events)

-- the same of the events of the workers, all of which ran
pub record StoresSuite (options : RunOptions) (before after : Work) : Type 0 where
  pub workers : RunsWorkers options before after
  pub stored : Goes before.folder.told after.folder.told (AddsRun (is_partial options) workers.events)

-- so it is of each task that keeps a run
abbrev pub Stores : Option Task → Work → Work → Type 0
Stores (Some (load options names)) before after = StoresLoad options names before after
Stores (Some (run options)) before after = StoresSuite options before after
Stores asked before after = ⊥
