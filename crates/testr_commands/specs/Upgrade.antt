-- `testr upgrade`: the chain of its steps, what it has done and printed, and what it needs.
use Rattle.std.specs.Prelude.{◌≡◌, ℕ, ◌<◌, Bool, true, false, Some, IsSomeAnd, List, Result, Ok, Err}
use Rattle.std.specs.Io.KnownBytes.{Appends}
use Rattle.edge_io.specs.Bytes.{AppendsPrefix}
use Rattle.edge_io.specs.Disk.{Files, Folder}
use Rattle.edge_io.specs.Moments.{LeavesOnly, Passes}
use Rattle.edge_io.specs.Steps.{Goes}
use Rattle.run_ledger.specs.Caches.{IsSound}
use Rattle.run_shelf.specs.Repository.{full_name}
use Rattle.old_folder.specs.Olds.{failing_name, IsOldWith}
use Rattle.old_runs.specs.Files.{IsDamaged}
use Rattle.old_upgrade.specs.Upgrading.{Upgrades, LacksCaches}
use Rattle.old_upgrade.specs.declared.faults.UpgradeFault.TheVariants as upgrade_fault
use Rattle.command_steps.specs.Outside.{Work, Shown, shown_folder, shown_out}
use Rattle.command_steps.specs.Reporting.{Prints}
use Rattle.command_steps.specs.Steps.{Step, Then, Gives, At}
use Rattle.command_steps.specs.Upgrading.{UpgradesFolder, upgraded_text}
use Rattle.command_steps.specs.declared.answer.Verdict.{Verdict}
use Rattle.command_steps.specs.declared.answer.Verdict.TheVariants.{Passed}
use Rattle.command_steps.specs.declared.answer.Refusal.{Refusal}
use Rattle.command_steps.specs.declared.answer.Refusal.TheVariants.{Upgrade, Print}
use Rattle.testr_commands.specs.Placed.{may_have_placed}

-- `upgrade`, step by step: the folder is upgraded, and it is printed how many runs it has
abbrev pub UpgradesAll : Step Shown Verdict Refusal
UpgradesAll =
    Then Upgrade (At shown_folder UpgradesFolder) (λ count.
    Then Print (At shown_out (Prints (upgraded_text count))) (λ _.
    Gives Passed))

-- the folder of the original tool is a repository of its runs, and it was printed how many these are
pub record DidUpgrade (before after : Work) (answer : ℕ) : Type 0 where
  pub count : ℕ
  pub upgraded : Goes before.folder.told after.folder.told (Upgrades count)
  pub printed : Appends before.out.told after.out.told (upgraded_text count)
  pub status : answer ≡ 0

-- the folder is one of the original tool, and no file of it is damaged
pub record IsWholeOld (files : Files) : Type 0 where
  pub count : ℕ
  pub old : IsOldWith count files
  pub runs : (number : ℕ) (bytes : List ℕ) → number < count → files (full_name number) ≡ Some bytes → IsDamaged bytes → ⊥
  pub failing : (bytes : List ℕ) → files failing_name ≡ Some bytes → IsDamaged bytes → ⊥

-- the folder is told to be one of the original tool, of which no file is damaged
abbrev pub CanUpgrade : Work → Type 0
CanUpgrade before = IsSomeAnd before.folder.told (λ s. IsWholeOld s.disk.published)

-- the folder was upgraded, and the output took a first part of the line that tells how many runs it has
pub record PrintsOfUpgrade (before after : Work) : Type 0 where
  pub count : ℕ
  pub upgraded : Goes before.folder.told after.folder.told (Upgrades count)
  pub printed : AppendsPrefix before.out.told after.out.told (upgraded_text count)

-- where neither cache is there in what a stop leaves at the first moment, what a stop leaves at each later one is sound
abbrev pub KeepsWithoutCaches : Folder → Folder → Type 0
KeepsWithoutCaches s t = LeavesOnly LacksCaches s.disk → Passes IsSound s t

-- whether the folder may be a repository that was none before: it was upgraded; or a call failed that gives a file its name, or
-- the barrier behind it; or it was not printed
abbrev pub upgrade_may_have_kept : Result Verdict Refusal → Bool
upgrade_may_have_kept (Ok verdict) = true
upgrade_may_have_kept (Err (Upgrade (upgrade_fault.Shelf call))) = may_have_placed call
upgrade_may_have_kept (Err (Print fault)) = true
upgrade_may_have_kept outcome = false
