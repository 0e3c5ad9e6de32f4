-- What a cache must be so that what is told with its help is so (docs/FORMATS.md, "Caches"). A cache that covers more runs
-- than there are is not used, and so may hold anything; and neither cache is asked for what the other one tells.
use Rattle.std.specs.Prelude.{ℕ}
use Rattle.edge_io.specs.Disk.{Folder}
use Rattle.run_ledger.specs.Cached.{SaysItsFailing, SaysItsTimes}
use Rattle.command_steps.specs.Runs.{HasRuns}

-- the cache of the failing set, where it covers at most the runs that there are, holds what these say
abbrev pub SoundFailing : Folder → Type 0
SoundFailing s = (number : ℕ) → HasRuns number s → SaysItsFailing number s

-- the same of the cache of the times
abbrev pub SoundTimes : Folder → Type 0
SoundTimes s = (number : ℕ) → HasRuns number s → SaysItsTimes number s
