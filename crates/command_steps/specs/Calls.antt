-- How many calls of the folder a step takes (docs/FORMATS.md, "Caches"): to tell the failing set, where its cache is there; and to
-- ask the caches and keep a run, where both caches cover all runs.
use Rattle.std.specs.Prelude.{◌≡◌, ℕ, ◌+◌, ◌*◌, ◌≤◌, Bool, Option, IfSome, List, drop, IsSomeAnd, All, length}
use Rattle.edge_io.specs.Disk.{Folder}
use Rattle.run_shelf.specs.Outcomes.{TicksUpTo}
use Rattle.run_shelf.specs.Repository.{Run, Shows}
use Rattle.run_ledger.specs.Cached.{ReadsSound, HoldsFailing}
use Rattle.run_ledger.specs.Costs.{asked_for_each}
use Rattle.testr_words.specs.declared.command.Question.{Question}
use Rattle.testr_words.specs.declared.command.Question.TheVariants.{Failing}
use Rattle.edge_io.specs.Steps.{Goes, Stays}
use Rattle.packet_codec.specs.Canonical.{IsEvent, Fits}
use Rattle.packet_codec.specs.declared.event.Event.{Event}
use Rattle.run_ledger.specs.Refreshing.{HoldBoth}
use Rattle.command_steps.specs.Runs.{AddsRun}

-- at most so many calls, and then the reads of the runs from this number on, each once
abbrev pub ReadsBehind : (calls start before now : ℕ) → Folder → Type 0
ReadsBehind calls start before now s = (runs : List Run) → Shows s.disk.published runs → now * 65536 ≤ before * 65536 + (calls * 65536 + asked_for_each (drop start runs))

-- Where the folder is told and is sound, and its file is a cache of the failing set, the calls are at most so many, and then
-- the reads of the runs that the cache does not cover.
abbrev pub SparesRuns : (calls : ℕ) → Option Folder → (before now : ℕ) → Type 0
SparesRuns calls told before now = IfSome told ReadsSound → IfSome told (λ s. (covers : ℕ) (ids : List (List ℕ)) → HoldsFailing covers ids s → ReadsBehind calls covers before now s)

-- the same of a question, where it is that of the failing set
abbrev pub SparesFor : (calls : ℕ) → Question → Option Folder → (before now : ℕ) → Type 0
SparesFor calls question told before now = (list : Bool) → question ≡ Failing list → SparesRuns calls told before now

-- the files are sound, and both caches cover so many runs
pub record IsCoveredTo (number : ℕ) (s : Folder) : Type 0 where
  pub sound : ReadsSound s
  pub held : HoldBoth number s

-- the folder is told, and so it is in it
abbrev pub IsCovered : (number : ℕ) → Option Folder → Type 0
IsCovered number told = IsSomeAnd told (IsCoveredTo number)

-- The folder was asked, and stays. Where both caches cover so many runs, it was called so often at most.
pub record AsksByFew (number calls : ℕ) (old new : Option Folder) (before now : ℕ) : Type 0 where
  pub same : Goes old new Stays
  pub few : IsCovered number old → TicksUpTo calls before now

-- One run more is shown, of these events, and the folder was called so often at most, and once for each of its packets.
pub record StoresByFew (calls : ℕ) (partial : Bool) (old new : Option Folder) (before now : ℕ) : Type 0 where
  pub events : List Event
  pub are_events : All IsEvent events
  pub fit : All Fits events
  pub stored : Goes old new (AddsRun partial events)
  pub few : now ≤ before + (calls + length events)
