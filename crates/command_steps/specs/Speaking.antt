-- What is said of a run while it goes on: its lines to the errors' sink, and its packets to the output, where these are wanted
-- (docs/COMMANDS.md, "Live lines").
use Rattle.std.specs.Prelude.{◌≡◌, ◌⊎◌, ℕ, ◌≤◌, Bool, true, Option, IfSome, All, List, length, Result, Ok, Err}
use Rattle.edge_io.specs.Disk.{Folder}
use Rattle.edge_io.specs.Seen.{Seen}
use Rattle.edge_io.specs.Steps.{Goes, Grown}
use Rattle.live_text.specs.Live.{rows_done, live_so_far, live_end, live_text}
use Rattle.outcome_fold.specs.Rows.{open_rows}
use Rattle.outcome_fold.specs.Summed.{Sums}
use Rattle.outcome_fold.specs.declared.row.Row.{Row}
use Rattle.outcome_fold.specs.declared.summary.Summary.{Summary}
use Rattle.packet_codec.specs.Canonical.{IsEvent, Fits}
use Rattle.packet_codec.specs.declared.event.Event.{Event}
use Rattle.run_ledger.specs.Reading.{AreRowsOf}
use Rattle.run_shelf.specs.Repository.{Run, Shows}
use Rattle.speaker.specs.Speaking.{Takes}
use Rattle.suite_run.specs.Aloud.{Sinks, echoed}
use Rattle.suite_run.specs.declared.run_listener.Shown.{Shown}
use Rattle.command_steps.specs.Runs.{run_bytes, with_run}
use Rattle.command_steps.specs.declared.live_lines.Silenced.{Silenced}

-- ---- while it is recorded

-- Behind the draft stand the packets of events. Their lines were said as they came, up to the end, which is left to say.
pub record WritesAloud (shown : Shown) (filter_tags : List (List ℕ)) (old new : Option Folder) (before after : Sinks) (silenced : Silenced) (end : List ℕ) (summary : Summary) : Type 0 where
  pub events : List Event
  pub are_events : All IsEvent events
  pub fit : All Fits events
  pub added : Goes old new (Grown (run_bytes events))
  -- this is kept of their rows
  pub rows : List Row
  pub rows_are : AreRowsOf (run_bytes events) rows
  pub sums : Sums filter_tags rows summary
  pub lines : Takes (live_so_far shown.live events) before.errors after.errors silenced.errors
  pub packets : Takes (echoed shown.echo events) before.out after.out silenced.out
  pub end_is : end ≡ live_end shown.live (length (rows_done events)) (open_rows events)

-- Of what was to be recorded some events were said, up to the end of their lines. A sink that failed took a first part.
pub record SaysPart (shown : Shown) (before after : Sinks) (silenced : Silenced) : Type 0 where
  pub events : List Event
  pub are_events : All IsEvent events
  pub fit : All Fits events
  pub lines : Takes (live_so_far shown.live events) before.errors after.errors silenced.errors
  pub packets : Takes (echoed shown.echo events) before.out after.out silenced.out

-- ---- at each exit

-- the last run that the folder shows is the one of these events
abbrev pub EndsWithRun : (partial : Bool) → List Event → Folder → Type 0
EndsWithRun partial events s = (runs : List Run) × Shows s.disk.published (with_run partial runs events)

-- The folder shows a run of these events last, and all of it was said. A sink that failed took a first part.
pub record SaysRun (shown : Shown) (partial : Bool) (folder : Option Folder) (before after : Sinks) (silenced : Silenced) : Type 0 where
  pub events : List Event
  pub are_events : All IsEvent events
  pub fit : All Fits events
  pub last : IfSome folder (EndsWithRun partial events)
  pub lines : Takes (live_text shown.live events) before.errors after.errors silenced.errors
  pub packets : Takes (echoed shown.echo events) before.out after.out silenced.out

-- Some events were said: up to the end of their lines, or all of it, and then the folder shows a run of these events last. A sink
-- that failed took a first part.
pub record SaysSome (shown : Shown) (partial : Bool) (folder : Option Folder) (before after : Sinks) (silenced : Silenced) : Type 0 where
  pub events : List Event
  pub are_events : All IsEvent events
  pub fit : All Fits events
  pub lines : Takes (live_so_far shown.live events) before.errors after.errors silenced.errors ⊎ (IfSome folder (EndsWithRun partial events) × Takes (live_text shown.live events) before.errors after.errors silenced.errors)
  pub packets : Takes (echoed shown.echo events) before.out after.out silenced.out

-- What was said at each exit, by the answer. Where that is 0 or 1 the run is stored, and all of it was said. Where it is 3, of a call
-- that refuses so before it records anything, nothing was.
pub record SaysAloud (shown : Shown) (early partial : Bool) (answer : ℕ) (folder : Option Folder) (before after : Sinks) (silenced : Silenced) : Type 0 where
  pub some : SaysSome shown partial folder before after silenced
  pub none : early ≡ true → answer ≡ 3 → after ≡ before
  pub whole : answer ≤ 1 → SaysRun shown partial folder before after silenced
