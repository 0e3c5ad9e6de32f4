-- The steps that ask the runs of a folder that was opened, with the help of the caches. The folder stays. Where the cache
-- that is asked is sound, or is not used, what is told is what all its runs say together.
use Rattle.std.specs.Prelude.{ℕ, IfSome, IfOk, List, Result}
use Rattle.std.specs.FinMap.{FinMap}
use Rattle.edge_io.specs.Causes.{RisesExactlyIf}
use Rattle.edge_io.specs.Disk.{Folder}
use Rattle.edge_io.specs.Seen.{Seen}
use Rattle.edge_io.specs.Steps.{Goes, Stays}
use Rattle.outcome_fold.specs.Order.{text_cmp}
use Rattle.run_ledger.specs.Ledger.{IsFailingSet, AreTimes}
use Rattle.command_steps.specs.Told.{tell_failed}
use Rattle.command_steps.specs.Trusted.{SoundFailing, SoundTimes}
use Rattle.command_steps.specs.declared.question_answers.TellFault.{TellFault}

-- the ids are those that fail by all runs
pub record FindsFailing (before after : Seen Folder) (result : Result (List (List ℕ)) TellFault) : Type 0 where
  pub ids : IfOk result (λ ids. IfSome before.told (λ s. SoundFailing s → IsFailingSet ids s))
  pub same : Goes before.told after.told Stays
  pub count : RisesExactlyIf before.faults after.faults (tell_failed result)

-- the times are those of the ids in all runs
pub record FindsTimes (before after : Seen Folder) (result : Result (FinMap text_cmp ℕ) TellFault) : Type 0 where
  pub times : IfOk result (λ times. IfSome before.told (λ s. SoundTimes s → AreTimes times s))
  pub same : Goes before.told after.told Stays
  pub count : RisesExactlyIf before.faults after.faults (tell_failed result)
