-- The step that brings the caches up to the runs (docs/FORMATS.md, "Caches").
use Rattle.std.specs.Prelude.{ℕ, List, length, Result, OnOk}
use Rattle.edge_io.specs.Causes.{RisesExactlyIf}
use Rattle.edge_io.specs.Disk.{Folder}
use Rattle.edge_io.specs.Seen.{Seen}
use Rattle.edge_io.specs.Steps.{Goes}
use Rattle.outcome_fold.specs.declared.row.Row.{Row}
use Rattle.run_ledger.specs.Cached.{ReadsSound}
use Rattle.run_ledger.specs.Ledger.{HasNewRows}
use Rattle.run_ledger.specs.Refreshing.{PutsCaches, HoldBoth, AreFolds, KeepsSound}
use Rattle.run_shelf.specs.Sides.{KeepsButCaches, PassesButCaches}
use Rattle.run_shelf.specs.Repository.{Run, Shows}
use Rattle.command_steps.specs.Told.{tell_failed}
use Rattle.command_steps.specs.declared.question_answers.TellFault.{TellFault}

-- Behind a run of this number and these rows. Where the files are sound, both caches cover all runs then, and hold what they
-- say together. Whether it is done or not, no other file differs, and what a stop at each moment leaves is sound where it
-- was.
pub record Refreshes (number : ℕ) (rows : List Row) (before after : Seen Folder) (result : Result (Unit {0}) TellFault) : Type 0 where
  pub refreshed : OnOk result (Goes before.told after.told (λ s t. HasNewRows number rows s → ReadsSound s → PutsCaches s t))
  pub others : Goes before.told after.told KeepsButCaches
  pub any_moment : Goes before.told after.told PassesButCaches
  pub sound : Goes before.told after.told (λ s t. HasNewRows number rows s → KeepsSound s t)
  pub count : RisesExactlyIf before.faults after.faults (tell_failed result)

-- both caches cover all runs that the folder shows, and hold what these say together
pub record HoldsCaches (s : Folder) : Type 0 where
  pub runs : List Run
  pub shown : Shows s.disk.published runs
  pub held : HoldBoth (length runs) s
  pub folds : AreFolds held.ids held.times s

-- so it is then, where the files were sound
abbrev pub BringsCaches : Folder → Folder → Type 0
BringsCaches s t = ReadsSound s → HoldsCaches t
