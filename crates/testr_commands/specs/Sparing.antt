-- How many calls of the folder a question takes: to tell the failing set, where its cache is there (docs/FORMATS.md,
-- "Caches"), and where the folder is no repository.
use Rattle.std.specs.Prelude.{◌≡◌, ℕ, ◌+◌, Bool, Option, Some, IfSome}
use Rattle.edge_io.specs.Disk.{Folder}
use Rattle.run_shelf.specs.Looking.{base_calls}
use Rattle.run_shelf.specs.Outcomes.{TicksUpTo}
use Rattle.run_shelf.specs.Repository.{IsRepository}
use Rattle.testr_words.specs.Tasks.{Task, ask}
use Rattle.testr_words.specs.declared.command.Question.{Question}
use Rattle.testr_words.specs.declared.command.Question.TheVariants.{Failing}
use Rattle.command_steps.specs.Calls.{SparesRuns}

-- Where the folder is told and is no repository, the look that finds it so is all: at most four calls, and two more under the
-- second format.
abbrev pub LooksOnly : Option Folder → (before now : ℕ) → Type 0
LooksOnly told before now = IfSome told (λ s. (IsRepository s.disk.published → ⊥) → TicksUpTo (4 + base_calls told) before now)

-- How few calls of the folder a question makes, at every status.
pub record SparesReads (asked : Option Task) (told : Option Folder) (before now : ℕ) : Type 0 where
  -- for the failing set six calls are enough beside these reads: four that open the folder, and two that read the cache. Under
  -- the second format two more read the base.
  pub failing : (list : Bool) → asked ≡ Some (ask (Failing list)) → SparesRuns (6 + base_calls told) told before now
  -- no question reads a file behind the look at a folder that is no repository
  pub looks : (question : Question) → asked ≡ Some (ask question) → LooksOnly told before now
