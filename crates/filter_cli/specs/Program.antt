-- What a filter does, step by step: its words, its patterns, its input or its file.
use Rattle.std.specs.Prelude.{◌≡◌, ◌⊎◌, ℕ, ⊤, Bool, true, false, Option, Some, None, List, Result, Ok, Err}
use Rattle.std.specs.Io.KnownBytes.{Appends}
use Rattle.edge_io.specs.Bytes.{AppendsPrefix}
use Rattle.edge_io.specs.Causes.{Rose}
use Rattle.edge_io.specs.Seen.{Seen}
use Rattle.sub_number.specs.declared.memory.NoMemory.{NoMemory}
use Rattle.filter_cli.specs.Steps.{Step, Then, Still, Gives, At}
use Rattle.filter_cli.specs.Pipe.{Pipe}
use Rattle.filter_cli.specs.Pumping.{Pumps}
use Rattle.filter_cli.specs.Attached.{WritesAlone}
use Rattle.filter_cli.specs.declared.pump_loop.PumpFault.{PumpFault}
use Rattle.filter_cli.specs.Patterns.{CompilesPatterns}
use Rattle.filter_cli.specs.Words.{ReadsRequest}
use Rattle.filter_cli.specs.Streams.{Writing, writing_of, unread_text, inside_by, sees_by, ends_by, patterns_of}
use Rattle.filter_cli.specs.Refusals.{usage_fault, filter_name_in, filter_refusal_line, inside_line, filter_exit_status}
use Rattle.filter_cli.specs.FileReads.{FeedsFile}
use Rattle.filter_cli.specs.Outside.{FilterOutside, Reach, reach_of, reach_pipe}
use Rattle.filter_cli.specs.declared.request.Asked.{Asked}
use Rattle.filter_cli.specs.declared.filter.StreamEnd.{StreamEnd}
use Rattle.filter_cli.specs.declared.request.Request.{Request}
use Rattle.filter_cli.specs.declared.refusal.UsageFault.{UsageFault}
use Rattle.filter_cli.specs.declared.refusal.Refusal.{Refusal}
use Rattle.filter_cli.specs.declared.refusal.Refusal.TheVariants.{Usage, Memory, Patterns, Pump, File}

-- words that are no filter are refused, and touch nothing
pub record FilterRefuses (fault : UsageFault) (before after : Reach) (outcome : Result StreamEnd Refusal) : Type 0 where
  pub usage : outcome ≡ Err (Usage fault)
  pub same : after ≡ before

-- the input stays as it was, and this text is written
pub record LeavesUnread (text : List ℕ) (before after : Pipe) (result : Result StreamEnd PumpFault) : Type 0 where
  pub unread : after.input ≡ before.input
  pub written : WritesAlone text before.out after.out result

-- the input is filtered, or left unread where there is a text that it does not decide
abbrev pub PumpsOrLeaves : Option (List ℕ) → Writing → Step Pipe StreamEnd PumpFault
PumpsOrLeaves None writing = Pumps (inside_by writing) (sees_by writing) (ends_by writing)
PumpsOrLeaves (Some text) writing = LeavesUnread text

-- making a filter touches nothing, and needs memory alone
abbrev pub MayBeMade : Result (Unit {0}) NoMemory → Type 0
MayBeMade made = ⊤

-- the input is filtered or left unread, which gives how it ended, or the refusal `Pump` where the pump stopped
abbrev pub FiltersOrLeaves : Asked → Step Pipe StreamEnd Refusal
FiltersOrLeaves asked = Then Pump (PumpsOrLeaves (unread_text asked) (writing_of asked)) (λ end. Gives end)

-- first its patterns are checked
abbrev pub Checked : Asked → Step Pipe StreamEnd Refusal
Checked asked = Then Patterns (Still (CompilesPatterns {A = Unit {0}} (patterns_of asked))) (λ _. FiltersOrLeaves asked)

-- the file of this name is filtered
abbrev pub FeedsNamed : (name : List ℕ) (inside : List ℕ → Bool) (sees : List ℕ → List ℕ → Type 0) (ends : List ℕ → List ℕ → ℕ → Type 0) → Step Reach StreamEnd Refusal
FeedsNamed name inside sees ends = Then (File name) (FeedsFile name inside sees ends) (λ end. Gives end)

-- First the filter is made, for which there may be no memory. The file is not looked at before.
abbrev pub MakesAndFeeds : (name : List ℕ) (inside : List ℕ → Bool) (sees : List ℕ → List ℕ → Type 0) (ends : List ℕ → List ℕ → ℕ → Type 0) → Step Reach StreamEnd Refusal
MakesAndFeeds name inside sees ends = Then Memory (Still MayBeMade) (λ _. FeedsNamed name inside sees ends)

-- A file that is read by its name stands in the place of the input. Its patterns are checked before it is looked at.
abbrev pub FiltersFrom : Option (List ℕ) → Asked → Step Reach StreamEnd Refusal
FiltersFrom None asked = At reach_pipe (Checked asked)
FiltersFrom (Some name) asked = Then Patterns (Still (CompilesPatterns {A = Unit {0}} (patterns_of asked))) (λ _. MakesAndFeeds name (inside_by (writing_of asked)) (sees_by (writing_of asked)) (ends_by (writing_of asked)))

-- what is asked for is done; where the words ask for nothing, they are refused with this fault
abbrev pub FilterPerforms : UsageFault → Option Request → Step Reach StreamEnd Refusal
FilterPerforms fault None = FilterRefuses fault
FilterPerforms fault (Some request) = FiltersFrom request.file request.asked

-- all that a filter does, but for the line that it may tell: it reads its words, which takes memory, and does what they ask
-- for
abbrev pub Filters : List (List ℕ) → Step Reach StreamEnd Refusal
Filters words = Then Memory (Still (ReadsRequest words)) (λ request. FilterPerforms (usage_fault words) request)

-- a line went to the errors' sink: whole, or in part where that sink failed
abbrev pub TakesLine : (line : List ℕ) → Seen (List ℕ) → Seen (List ℕ) → Type 0
TakesLine line before after = AppendsPrefix before.told after.told line × (Appends before.told after.told line ⊎ Rose before.faults after.faults)

-- the line went there that what was read ends inside a packet, where it does
abbrev pub TellsInside : (name : List ℕ) → (inside : Bool) → Seen (List ℕ) → Seen (List ℕ) → Type 0
TellsInside name true before after = TakesLine (inside_line name) before after
TellsInside name false before after = after ≡ before

-- the line of a refusal went there, or that of the end
abbrev pub FilterTellsLine : (name : List ℕ) → Result StreamEnd Refusal → Seen (List ℕ) → Seen (List ℕ) → Type 0
FilterTellsLine name (Ok end) before after = TellsInside name end.inside before after
FilterTellsLine name (Err refusal) before after = TakesLine (filter_refusal_line name refusal) before after

-- the line of a refusal was told, or that of an end inside a packet, where there is one; the answer is the status of the outcome
pub record FilterTells (name : List ℕ) (outcome : Result StreamEnd Refusal) (before after : Seen (List ℕ)) (answer : ℕ) : Type 0 where
  pub line : FilterTellsLine name outcome before after
  pub code : answer ≡ filter_exit_status outcome

-- one outcome, which the steps made, and its line and its status
pub record FilterAnswers (words : List (List ℕ)) (before after : FilterOutside) (answer : ℕ) : Type 0 where
  pub outcome : Result StreamEnd Refusal
  pub done : Filters words (reach_of before) (reach_of after) outcome
  pub told : FilterTells (filter_name_in words) outcome before.errors after.errors answer
