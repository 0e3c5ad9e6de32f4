-- How many calls of the folder a run takes where both caches cover all runs (docs/FORMATS.md, "Caches"). Where causes are looked
-- for and a test fails, the run is read as well, and nothing is said of how often.
use Rattle.std.specs.Prelude.{◌≡◌, ℕ, ◌+◌, ◌≤◌, Bool, true, Option, Some, IfSome, List, length}
use Rattle.edge_io.specs.Disk.{Folder}
use Rattle.run_ledger.specs.Cached.{ReadsSound}
use Rattle.run_ledger.specs.Refreshing.{HoldBoth}
use Rattle.run_shelf.specs.Looking.{base_calls}
use Rattle.run_shelf.specs.Outcomes.{TicksUpTo}
use Rattle.run_shelf.specs.Repository.{Run, Shows}
use Rattle.testr_words.specs.Suites.{RunOptions, is_partial}
use Rattle.testr_words.specs.Tasks.{Task, run}
use Rattle.command_steps.specs.Calls.{StoresByFew}

-- How often a run calls the folder, by its answer. Of one that looks for causes it is said where no test fails. Four calls open
-- the folder, and two read each of the caches that are asked; so a run that is refused has made eight at most. One begins the
-- run, one adds each packet, three keep it, and fourteen bring the caches up to it. Under the second format two more read the
-- base.
pub record RunsByFew (find_causes partial : Bool) (old new : Option Folder) (answer before now : ℕ) : Type 0 where
  pub done : answer ≤ 1 → (find_causes ≡ true → answer ≡ 0) → StoresByFew (26 + base_calls old) partial old new before now
  pub refused : answer ≡ 3 → TicksUpTo (8 + base_calls old) before now

-- so often where the folder is told, the files are sound, and both caches cover all runs that it shows
abbrev pub SparesRunOf : (find_causes partial : Bool) (old new : Option Folder) (answer before now : ℕ) → Type 0
SparesRunOf find_causes partial old new answer before now = IfSome old (λ s. ReadsSound s → (runs : List Run) → Shows s.disk.published runs → HoldBoth (length runs) s → RunsByFew find_causes partial old new answer before now)

-- the same of what was asked for, where it is a run
abbrev pub SparesRun : Option Task → (old new : Option Folder) → (answer before now : ℕ) → Type 0
SparesRun asked old new answer before now = (options : RunOptions) → asked ≡ Some (run options) → SparesRunOf options.find_causes (is_partial options) old new answer before now
