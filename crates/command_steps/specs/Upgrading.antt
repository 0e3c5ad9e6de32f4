-- The step that makes a folder of the original tool a repository, and what it says then.
use Rattle.std.specs.Prelude.{◌++◌, ℕ, List, codes, Result, IfSome, IfOk, IfErr}
use Rattle.std.specs.Fmt.{decimal}
use Rattle.edge_io.specs.Causes.{RisesExactlyIf}
use Rattle.edge_io.specs.Disk.{Folder, IsImage}
use Rattle.edge_io.specs.Seen.{Seen}
use Rattle.edge_io.specs.Steps.{Goes}
use Rattle.old_upgrade.specs.Upgrading.{Upgrades, UpgradeFails, PassesUpgrade, upgrade_failed}
use Rattle.old_upgrade.specs.declared.faults.UpgradeFault.{UpgradeFault}
use Rattle.old_upgrade.specs.declared.faults.UpgradeFault.TheVariants as upgrade_fault

-- the folder becomes a repository of so many runs; or why it does not, and what it is then
pub record UpgradesFolder (before after : Seen Folder) (result : Result ℕ UpgradeFault) : Type 0 where
  -- what reads give before is what a stop may leave then
  pub reads : IfSome before.told (λ s. IsImage s.disk s.disk.published)
  pub upgraded : IfOk result (λ count. Goes before.told after.told (Upgrades count))
  pub refused : IfErr result (λ fault. Goes before.told after.told (UpgradeFails fault))
  pub any_moment : Goes before.told after.told PassesUpgrade
  pub count : RisesExactlyIf before.faults after.faults (upgrade_failed result)

-- the line that is printed of a folder that was upgraded: how many runs it has
abbrev pub upgraded_text : ℕ → List ℕ
upgraded_text count = codes "upgraded " ++ decimal count ++ codes " runs\n"

-- the exit status where a folder was not upgraded: 3 by what it holds, 4 where a call of it failed, 5 where memory was
-- wanting
abbrev pub upgrade_exit_status : UpgradeFault → ℕ
upgrade_exit_status upgrade_fault.NoStore = 3
upgrade_exit_status upgrade_fault.NotOld = 3
upgrade_exit_status upgrade_fault.UnknownFormat = 3
upgrade_exit_status upgrade_fault.BadCount = 3
upgrade_exit_status (upgrade_fault.BadRun number) = 3
upgrade_exit_status upgrade_fault.BadFailing = 3
upgrade_exit_status (upgrade_fault.Shelf call) = 4
upgrade_exit_status upgrade_fault.NoMemory = 5

-- the line where a folder was not upgraded
abbrev pub upgrade_text : UpgradeFault → List ℕ
upgrade_text upgrade_fault.NoStore = codes "testr: no repository here\n"
upgrade_text upgrade_fault.NotOld = codes "testr: nothing to upgrade\n"
upgrade_text upgrade_fault.UnknownFormat = codes "testr: unknown repository format\n"
upgrade_text upgrade_fault.BadCount = codes "testr: next-stream is no number\n"
upgrade_text (upgrade_fault.BadRun number) = codes "testr: run " ++ decimal number ++ codes " is damaged\n"
upgrade_text upgrade_fault.BadFailing = codes "testr: the failing set is damaged\n"
upgrade_text (upgrade_fault.Shelf call) = codes "testr: fault of the repository folder\n"
upgrade_text upgrade_fault.NoMemory = codes "testr: out of memory\n"
