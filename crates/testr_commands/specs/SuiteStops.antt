-- What a stop at each moment of `run` leaves (docs/DISK.md, the shelf).
use Rattle.std.specs.Prelude.{◌⊎◌, ℕ, Bool, List}
use Rattle.edge_io.specs.Disk.{Files, Folder, IsImage}
use Rattle.edge_io.specs.Moments.{Passes}
use Rattle.packet_codec.specs.declared.event.Event.{Event}
use Rattle.run_shelf.specs.Images.{PassesOld}
use Rattle.run_shelf.specs.Repository.{run_of}
use Rattle.command_steps.specs.Outside.{Work}
use Rattle.command_steps.specs.Runs.{run_bytes, HasRunAndCaches}
use Rattle.testr_words.specs.Suites.{RunOptions, is_partial}
use Rattle.testr_commands.specs.Workers.{RunsWorkers}

-- The files and one run more, whole, of these events. Of other files only those of the caches may differ.
pub record HasSuiteRun (partial : Bool) (events : List Event) (files image : Files) : Type 0 where
  pub number : ℕ
  pub beside : HasRunAndCaches files number (run_of partial (run_bytes events)) image

-- A stop at each moment leaves what one before the command might have left. Or the workers were started, all of them, and
-- then it leaves that or these files with the run of all that is recorded of them, whatever the caches are: the same run at
-- each moment. `after` is the outside at the exit, so that no other child was started than the workers and, where causes are looked
-- for, probes behind them.
abbrev pub PassesSuiteRun : RunOptions → (before after : Work) → Folder → Folder → Type 0
PassesSuiteRun options before after s t =
    PassesOld s t
    ⊎ ((workers : RunsWorkers options before after) × Passes (λ image. IsImage s.disk image ⊎ HasSuiteRun (is_partial options) workers.events s.disk.published image) s t)
