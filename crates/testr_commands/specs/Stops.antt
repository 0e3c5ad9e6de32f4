-- What a stop at each moment of a command leaves (docs/DISK.md, the shelf).
use Rattle.std.specs.Prelude.{◌⊎◌, ℕ, Bool, Option, Some, All, List}
use Rattle.edge_io.specs.Disk.{Files, Folder, IsImage}
use Rattle.edge_io.specs.Steps.{Stays}
use Rattle.edge_io.specs.Moments.{Passes}
use Rattle.packet_codec.specs.Grammar.{AreBytes}
use Rattle.packet_codec.specs.declared.event.Event.{Event}
use Rattle.command_steps.specs.Files.{AreSources, HasRecordedInTurn}
use Rattle.run_shelf.specs.Repository.{run_of}
use Rattle.run_shelf.specs.Images.{PassesOld, PassesFormat}
use Rattle.command_steps.specs.Runs.{run_bytes, HasRunAndCaches}
use Rattle.command_steps.specs.Outside.{Work}
use Rattle.testr_commands.specs.SuiteStops.{PassesSuiteRun}
use Rattle.old_upgrade.specs.Upgrading.{PassesUpgrade}
use Rattle.testr_words.specs.Tasks.{Task, init, load, ask, run, upgrade}

-- The files and one run more, whole: the run of what is recorded of all sources, which are the input's bytes or those of
-- the files named, where these are told. Of other files only those of the caches may differ.
pub record HasLoadedRun (partial : Bool) (names : List (List ℕ)) (told : Option Files) (left : Option (List ℕ)) (files image : Files) : Type 0 where
  pub number : ℕ
  pub sources : List (List ℕ)
  pub are_sources : AreSources names told left sources
  pub are_bytes : All AreBytes sources
  pub events : List Event
  pub recorded : HasRecordedInTurn 0 sources events
  pub beside : HasRunAndCaches files number (run_of partial (run_bytes events)) image

-- a stop at each moment leaves what one before the command might have left, or these files with the new run, whatever the
-- caches are
abbrev pub PassesLoad : Bool → List (List ℕ) → Option Files → Option (List ℕ) → Folder → Folder → Type 0
PassesLoad partial names told left s t = Passes (λ image. IsImage s.disk image ⊎ HasLoadedRun partial names told left s.disk.published image) s t

-- what a stop at each moment of what was asked for leaves, from the one outside to the other
abbrev pub PassesTask : Option Task → (before after : Work) → Folder → Folder → Type 0
PassesTask (Some init) before after = PassesFormat
PassesTask (Some (load options names)) before after = PassesLoad options.partial names before.site.told before.input.told
PassesTask (Some (ask question)) before after = PassesOld
PassesTask (Some (run options)) before after = PassesSuiteRun options before after
PassesTask (Some upgrade) before after = PassesUpgrade
PassesTask asked before after = Stays
