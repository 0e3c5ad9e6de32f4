-- The step that finds the answer of a question.
use Rattle.std.specs.Prelude.{ℕ, Bool, true, false, IfSome, IfOk, List, codes, Result, Ok, Err}
use Rattle.edge_io.specs.Disk.{Folder}
use Rattle.edge_io.specs.Seen.{Seen}
use Rattle.edge_io.specs.Steps.{Goes, Stays}
use Rattle.edge_io.specs.Causes.{RisesExactlyIf}
use Rattle.run_ledger.specs.declared.fault.LedgerFault.{LedgerFault}
use Rattle.run_ledger.specs.declared.fault.LedgerFault.TheVariants as ledger_fault
use Rattle.command_steps.specs.Says.{SaysOfFolder}
use Rattle.testr_words.specs.declared.command.Question.{Question}
use Rattle.command_steps.specs.declared.answer.Verdict.{Verdict}
use Rattle.command_steps.specs.declared.question_answers.Told.{Told}
use Rattle.command_steps.specs.declared.question_answers.TellFault.{TellFault}
use Rattle.command_steps.specs.declared.question_answers.TellFault.TheVariants.{Shelf, NoMemory}

-- the text and the verdict are what this says of the folder
abbrev pub TellsSo : (Folder → List ℕ → Verdict → Type 0) → Told → Folder → Type 0
TellsSo Says told s = Says s told.text.items told.verdict

-- they are the answer of the question
abbrev pub IsAnswer : Question → Told → Folder → Type 0
IsAnswer question told s = SaysOfFolder question told.text.items told.verdict s

-- whether a call of the folder failed
abbrev pub fault_fails : TellFault → Bool
fault_fails Shelf = true
fault_fails NoMemory = false

-- a call of the folder failed as the runs were asked
abbrev pub tell_failed : {T : Type 0} → Result T TellFault → Bool
tell_failed (Ok told) = false
tell_failed (Err fault) = fault_fails fault

-- why a store that could not be read tells nothing
abbrev pub fault_of_ledger : LedgerFault → TellFault
fault_of_ledger (ledger_fault.Store fault) = Shelf
fault_of_ledger ledger_fault.NoMemory = NoMemory

-- The answer is that of the folder, which stays.
pub record FindsAnswer (question : Question) (before after : Seen Folder) (result : Result Told TellFault) : Type 0 where
  pub answers : IfOk result (λ told. IfSome before.told (IsAnswer question told))
  pub same : Goes before.told after.told Stays
  pub count : RisesExactlyIf before.faults after.faults (tell_failed result)

-- the exit status where the runs do not tell: 4 where a call of the folder failed, 5 where memory was wanting
abbrev pub tell_exit_status : TellFault → ℕ
tell_exit_status Shelf = 4
tell_exit_status NoMemory = 5

-- the line where the runs do not tell
abbrev pub tell_text : TellFault → List ℕ
tell_text Shelf = codes "testr: fault of the repository folder\n"
tell_text NoMemory = codes "testr: out of memory\n"
