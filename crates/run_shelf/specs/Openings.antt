-- What a folder is that was not opened.
use Rattle.std.specs.Prelude.{◌≡◌, ⊤, ℕ, Option, MatchResult, MatchOption, Err}
use Rattle.std.specs.Borrow.{GName}
use Rattle.edge_io.specs.Causes.{RisesExactlyIf}
use Rattle.edge_io.specs.Disk.{Folder}
use Rattle.edge_io.specs.Steps.{Goes}
use Rattle.run_shelf.specs.declared.faults.OpenFault.{OpenFault}
use Rattle.run_shelf.specs.declared.store.Opening.{Opening}
use Rattle.run_shelf.specs.Faults.{open_failed}
use Rattle.run_shelf.specs.Images.{PassesOld}
use Rattle.run_shelf.specs.Outcomes.{OpenFails}

-- why the folder was not opened, what it is by then, and whether a call of it failed
pub record IsNotOpened (fault : OpenFault) (before : Option Folder) (faults : ℕ) (after : Option Folder) (faults_after : ℕ) : Type 0 where
  pub refused : Goes before after (OpenFails fault)
  pub any_moment : Goes before after PassesOld
  pub count : RisesExactlyIf faults faults_after (open_failed {T = ⊤} (Err fault))

-- The store holds the folder of this name; or that folder is handed back, and of it this is so.
abbrev pub HandsBack : {H : Type 0} → (name : GName) → Opening H → (Why : OpenFault → H → Type 0) → Type 0
HandsBack name opening Why = MatchResult opening.opened (λ store. store.shelf.ghost_name ≡ name) (λ fault. MatchOption opening.back ⊥ (λ back. (back.ghost_name ≡ name) × Why fault back.now))
