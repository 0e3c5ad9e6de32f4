-- The ways in which a filter ends. `missing` says that there is no file of the name that it is to read.
use Rattle.std.proofs.Common.{◌≡◌, ℕ, Option, None, Some, Result, Ok, Err, List, sym, subst}
use Rattle.filter_cli.specs.Steps.{Then, Gives}
use Rattle.sub_number.specs.declared.memory.NoMemory.{NoMemory}
use Rattle.filter_cli.specs.Steps.{stops, goes_on}
use Rattle.filter_cli.specs.Pipe.{Pipe}
use Rattle.filter_cli.specs.Pumping.{PumpsToEnd, ReadFails, WriteFails, PassesLimit, StopsBefore}
use Rattle.filter_cli.specs.Tools.{tool_of}
use Rattle.filter_cli.specs.Words.{asked_by_words}
use Rattle.filter_cli.specs.Streams.{writing_of, unread_text, text_unread, inside_by, sees_by, ends_by, AsksFor, HasBadPattern}
use Rattle.filter_cli.specs.Refusals.{usage_fault}
use Rattle.filter_cli.specs.Program.{LeavesUnread, PumpsOrLeaves, FiltersOrLeaves, Checked}
use Rattle.filter_cli.specs.declared.request.Asked.{Asked}
use Rattle.filter_cli.specs.declared.patterns.PatternsFault.TheVariants as patterns_fault
use Rattle.filter_cli.specs.declared.pump_loop.PumpFault.TheVariants as pump_fault
use Rattle.filter_cli.specs.declared.filter.StreamEnd.{StreamEnd}
use Rattle.filter_cli.specs.declared.refusal.Refusal.{Refusal}
use Rattle.filter_cli.specs.declared.refusal.Refusal.TheVariants.{Usage, Memory, Patterns, Pump, File}
use Rattle.filter_cli.specs.declared.file_loop.FileFault.TheVariants as file_fault

pub data Ways (words : List (List ℕ)) (missing : Type 0) (a b : Pipe) (outcome : Result StreamEnd Refusal) : Type 0 where
  by_usage : outcome ≡ Err (Usage (usage_fault words)) → asked_by_words words ≡ None → b ≡ a → Ways words missing a b outcome
  by_memory : (none : NoMemory) → outcome ≡ Err (Memory none) → (tool_of words ≡ None → ⊥) → b ≡ a → Ways words missing a b outcome
  by_bad : (text : List ℕ) → outcome ≡ Err (Patterns (patterns_fault.Bad text)) → HasBadPattern words → b ≡ a → Ways words missing a b outcome
  by_want : (asked : Asked) → outcome ≡ Err (Patterns patterns_fault.NoMemory) → asked_by_words words ≡ Some asked → b ≡ a → Ways words missing a b outcome
  passed : (asked : Asked) (end : StreamEnd) → outcome ≡ Ok end → AsksFor words asked → text_unread words ≡ None → PumpsToEnd (inside_by (writing_of asked)) (ends_by (writing_of asked)) a b end → Ways words missing a b outcome
  by_input : (asked : Asked) → outcome ≡ Err (Pump pump_fault.Input) → AsksFor words asked → text_unread words ≡ None → ReadFails (sees_by (writing_of asked)) a b → Ways words missing a b outcome
  by_file_read : (asked : Asked) (name : List ℕ) → outcome ≡ Err (File name file_fault.Read) → AsksFor words asked → text_unread words ≡ None → ReadFails (sees_by (writing_of asked)) a b → Ways words missing a b outcome
  by_length : (asked : Asked) → outcome ≡ Err (Pump pump_fault.TooLong) → AsksFor words asked → text_unread words ≡ None → PassesLimit (sees_by (writing_of asked)) a b → Ways words missing a b outcome
  by_file_length : (asked : Asked) (name : List ℕ) → outcome ≡ Err (File name file_fault.TooLong) → AsksFor words asked → text_unread words ≡ None → PassesLimit (sees_by (writing_of asked)) a b → Ways words missing a b outcome
  by_output : (asked : Asked) → outcome ≡ Err (Pump pump_fault.Output) → AsksFor words asked → text_unread words ≡ None → WriteFails (sees_by (writing_of asked)) (ends_by (writing_of asked)) a b → Ways words missing a b outcome
  by_file_output : (asked : Asked) (name : List ℕ) → outcome ≡ Err (File name file_fault.Output) → AsksFor words asked → text_unread words ≡ None → WriteFails (sees_by (writing_of asked)) (ends_by (writing_of asked)) a b → Ways words missing a b outcome
  by_room : (asked : Asked) → outcome ≡ Err (Pump pump_fault.NoMemory) → AsksFor words asked → text_unread words ≡ None → StopsBefore (sees_by (writing_of asked)) a b → Ways words missing a b outcome
  by_file_room : (asked : Asked) (name : List ℕ) → outcome ≡ Err (File name file_fault.NoMemory) → AsksFor words asked → text_unread words ≡ None → StopsBefore (sees_by (writing_of asked)) a b → Ways words missing a b outcome
  by_no_file : (asked : Asked) (name : List ℕ) → outcome ≡ Err (File name file_fault.NoFile) → AsksFor words asked → text_unread words ≡ None → StopsBefore (sees_by (writing_of asked)) a b → a.input.told ≡ None → missing → Ways words missing a b outcome
  gave : (asked : Asked) (text : List ℕ) (end : StreamEnd) → outcome ≡ Ok end → AsksFor words asked → text_unread words ≡ Some text → LeavesUnread text a b (Ok end) → Ways words missing a b outcome
  by_sink : (asked : Asked) (text : List ℕ) → outcome ≡ Err (Pump pump_fault.Output) → AsksFor words asked → text_unread words ≡ Some text → LeavesUnread text a b (Err pump_fault.Output) → Ways words missing a b outcome
  by_space : (asked : Asked) (text : List ℕ) → outcome ≡ Err (Pump pump_fault.NoMemory) → AsksFor words asked → text_unread words ≡ Some text → LeavesUnread text a b (Err pump_fault.NoMemory) → Ways words missing a b outcome

module _ (words : List (List ℕ)) (missing : Type 0) (a b : Pipe) (outcome : Result StreamEnd Refusal) where
  passes_ways : (asked : Asked) (unread : Option (List ℕ)) → AsksFor words asked → text_unread words ≡ unread → Then Pump (PumpsOrLeaves unread (writing_of asked)) (λ end. Gives end) a b outcome → Ways words missing a b outcome
  passes_ways asked None asks reads (stops pump_fault.Input is step) = by_input asked is asks reads step
  passes_ways asked None asks reads (stops pump_fault.TooLong is step) = by_length asked is asks reads step
  passes_ways asked None asks reads (stops pump_fault.Output is step) = by_output asked is asks reads step
  passes_ways asked None asks reads (stops pump_fault.NoMemory is step) = by_room asked is asks reads step
  passes_ways asked None asks reads (goes_on end between pumps next) =
      passed asked end next.answer asks reads (subst (λ (w : Pipe). PumpsToEnd (inside_by (writing_of asked)) (ends_by (writing_of asked)) a w end) (sym next.same) pumps)
  passes_ways asked (Some text) asks leaves (stops pump_fault.Input is step) = absurd step.written
  passes_ways asked (Some text) asks leaves (stops pump_fault.TooLong is step) = absurd step.written
  passes_ways asked (Some text) asks leaves (stops pump_fault.Output is step) = by_sink asked text is asks leaves step
  passes_ways asked (Some text) asks leaves (stops pump_fault.NoMemory is step) = by_space asked text is asks leaves step
  passes_ways asked (Some text) asks leaves (goes_on end between gives next) =
      gave asked text end next.answer asks leaves (subst (λ (w : Pipe). LeavesUnread text a w (Ok end)) (sym next.same) gives)

  pub checked_ways : (asked : Asked) → asked_by_words words ≡ Some asked → text_unread words ≡ unread_text asked → Checked asked a b outcome → Ways words missing a b outcome
  checked_ways asked named own (stops (patterns_fault.Bad text) is step) = by_bad text is (record { asked = asked; named = named; text = text; bad = step.says }) step.same
  checked_ways asked named own (stops patterns_fault.NoMemory is step) = by_want asked is named step.same
  checked_ways asked named own (goes_on value between step next) =
      passes_ways asked (unread_text asked) (record { named = named; good = step.says }) own (subst (λ (w : Pipe). FiltersOrLeaves asked w b outcome) step.same next)
