-- What a call of the filters promises.
use Rattle.std.specs.Prelude.{◌≡◌, ◌⊎◌, ℕ, ◌≤◌, ⊤, Option, None, Some, IfSome, IsSomeAnd, List, length, Result, Err}
use Rattle.std.specs.Io.KnownBytes.{Appends}
use Rattle.edge_io.specs.Causes.{Rose}
use Rattle.edge_io.specs.Disk.{Files}
use Rattle.packet_codec.specs.Grammar.{AreBytes}
use Rattle.edge_io.specs.Bytes.{AppendsPrefix}
use Rattle.edge_io.specs.Limits.{most_bytes}
use Rattle.filter_cli.specs.FileReads.{file_pipe, IsAbsent, LeavesRest, SaysMissing}
use Rattle.filter_cli.specs.Pipe.{Pipe, pipe, NoFault}
use Rattle.filter_cli.specs.Pumping.{PumpsAll, ReadFails, WriteFails, IsTooLongInput}
use Rattle.filter_cli.specs.Tools.{tool_of}
use Rattle.filter_cli.specs.Words.{asked_by_words, input_file_in}
use Rattle.filter_cli.specs.Streams.{AsksFor, HasBadPattern, IsSeenBy, IsFilteredBy, is_inside_for, text_unread}
use Rattle.filter_cli.specs.Outside.{FilterOutside, reach_of, PipeRose}
use Rattle.filter_cli.specs.Refusals.{filter_name_in}
use Rattle.filter_cli.specs.Program.{FilterAnswers, TellsInside}
use Rattle.filter_cli.specs.declared.request.Asked.{Asked}
use Rattle.filter_cli.specs.declared.filter.StreamEnd.{StreamEnd}
use Rattle.filter_cli.specs.declared.refusal.Refusal.{Refusal}
use Rattle.filter_cli.specs.declared.refusal.Refusal.TheVariants.{Pump, File}
use Rattle.filter_cli.specs.declared.file_loop.FileFault.TheVariants as file_fault
use Rattle.filter_cli.specs.declared.pump_loop.PumpFault.TheVariants as pump_fault

-- ---- where the input is left unread

-- it stays as it was, and this text was written
pub record GivesAll (text : List ℕ) (before after : Pipe) (status : ℕ) : Type 0 where
  pub unread : after.input ≡ before.input
  pub wrote : Appends before.out.told after.out.told text
  pub passed : status ≡ 0
  pub faults : NoFault before after

-- it stays as it was, and of this text a first part was written
pub record GivesFirst (text : List ℕ) (before after : Pipe) : Type 0 where
  pub unread : after.input ≡ before.input
  pub wrote : AppendsPrefix before.out.told after.out.told text

-- a write failed
pub record GiveFails (text : List ℕ) (before after : Pipe) : Type 0 where
  pub part : GivesFirst text before after
  pub rose : Rose before.out.faults after.out.faults

-- ---- of all words, by the text that they write where they leave the input unread

-- The whole input was read, and its text was written. Where the words leave the input unread, their own text was written.
abbrev pub IsDone : List (List ℕ) → Option (List ℕ) → Pipe → Pipe → ℕ → Type 0
IsDone words None = PumpsAll (IsFilteredBy words)
IsDone words (Some text) = GivesAll text

-- a write failed
abbrev pub OutputFails : List (List ℕ) → Option (List ℕ) → Pipe → Pipe → Type 0
OutputFails words None = WriteFails (IsSeenBy words) (IsFilteredBy words)
OutputFails words (Some text) = GiveFails text

-- Where a read failed, what was written is exactly what the bytes that the reads gave decide. Where a write failed, it is
-- at least what the reads before the last piece decide, or a first part of the text that the input does not decide. Else no
-- call failed.
abbrev pub FaultsOf : List (List ℕ) → Result StreamEnd Refusal → Pipe → Pipe → Type 0
FaultsOf words (Err (Pump pump_fault.Input)) = ReadFails (IsSeenBy words)
FaultsOf words (Err (Pump pump_fault.Output)) = OutputFails words (text_unread words)
FaultsOf words (Err (File name file_fault.Read)) = ReadFails (IsSeenBy words)
FaultsOf words (Err (File name file_fault.Output)) = OutputFails words (text_unread words)
FaultsOf words outcome = NoFault

-- no refusal but a fault or want of memory has a cause
pub record CanFilter (words : List (List ℕ)) (before : Pipe) : Type 0 where
  pub asked : Asked
  pub asks : AsksFor words asked
  -- words that leave the input unread ask nothing of it
  pub short : text_unread words ≡ None → IsSomeAnd before.input.told (λ bytes. length bytes ≤ most_bytes)

-- ---- what is read: the input, or a file by its name

-- what was read up to a place, and the output; of the input the place says nothing
abbrev pub feed_of : Option (List ℕ) → (place : ℕ) → FilterOutside → Pipe
feed_of None place w = pipe w.input w.out
feed_of (Some name) place w = file_pipe name place (reach_of w)

-- What the words do not read stays as it was, and no file changes. Where there is no file of the name, nothing is written.
abbrev pub Rests : Option (List ℕ) → FilterOutside → FilterOutside → Type 0
Rests None before after = after.site ≡ before.site
Rests (Some name) before after = LeavesRest name (reach_of before) (reach_of after)

-- a file is to be read, and there is none of its name, where the files are told
abbrev pub IsMissing : Option (List ℕ) → Option Files → Type 0
IsMissing None told = ⊥
IsMissing (Some name) told = IsAbsent name told

-- where the files are told, and there is none of the name that is to be read, the status says so
abbrev pub RefusesMissing : Option (List ℕ) → FilterOutside → FilterOutside → ℕ → Type 0
RefusesMissing None before after answer = ⊤
RefusesMissing (Some name) before after answer = IfSome before.site.told (λ files. files name ≡ None → SaysMissing before.site after.site answer)

-- ---- the promises

-- What each call of the filters promises of what these words read and write, by its outcome. `before` and `after` have what
-- they read in the place of the input.
pub record Feeds (words : List (List ℕ)) (outcome : Result StreamEnd Refusal) (before after : Pipe) (answer : ℕ) : Type 0 where
  -- all that is read was read, and the text of it was written; the status is its status; or words that leave the input
  -- unread wrote their text
  pub done : answer ≤ 1 → IsDone words (text_unread words) before after answer
  -- at every exit a first part of the text was written, and nothing else
  pub prefix : IfSome before.input.told (λ bytes. AreBytes bytes → (text : List ℕ) (status : ℕ) → IsFilteredBy words bytes text status → AppendsPrefix before.out.told after.out.told text)
  -- words that leave the input unread do so at every exit, and then a first part of their text was written
  pub unread : (text : List ℕ) → text_unread words ≡ Some text → GivesFirst text before after
  -- what is said of faults, by the outcome
  pub faults : FaultsOf words outcome before after
  pub fault : answer ≡ 4 → ((text_unread words ≡ None) × ReadFails (IsSeenBy words) before after) ⊎ OutputFails words (text_unread words) before after
  -- it does not give up without a cause
  pub completeness : CanFilter words before → (PipeRose before after → ⊥) → (answer ≤ 1) ⊎ (answer ≡ 5)

-- What each call of the filters promises, for these words, from the outside before it to that after it.
pub record FilterPromises (words : List (List ℕ)) (before after : FilterOutside) (answer : ℕ) : Type 0 where
  -- there is one outcome, which the steps made, and the status and the line on the errors' sink are its own
  pub answers : FilterAnswers words before after answer
  pub most : answer ≤ 5
  -- some place of a file that is named: a site does not tell how far it was read
  pub place : ℕ
  pub feeds : Feeds words answers.outcome (feed_of (input_file_in words) 0 before) (feed_of (input_file_in words) place after) answer
  pub rests : Rests (input_file_in words) before after
  -- where it was done, and what it read is told, the errors' sink has the line of its end exactly where that is inside a packet
  pub inside : answer ≤ 1 → IfSome (feed_of (input_file_in words) 0 before).input.told (λ bytes. TellsInside (filter_name_in words) (is_inside_for words bytes) before.errors after.errors)
  -- a file that is not there is refused
  pub missing : RefusesMissing (input_file_in words) before after answer
  -- words that are no filter, and bad patterns, touch nothing
  pub nothing : (asked_by_words words ≡ None) ⊎ HasBadPattern words → reach_of after ≡ reach_of before
  pub usage : answer ≡ 2 → asked_by_words words ≡ None
  -- words that are no filter are refused as such, or memory was wanting to read those behind a filter's name
  pub refused : asked_by_words words ≡ None → (answer ≡ 2) ⊎ ((answer ≡ 5) × (tool_of words ≡ None → ⊥))
  -- a pattern is bad, or what is read is too long, or there is no file of the name
  pub named : answer ≡ 3 → HasBadPattern words ⊎ ((text_unread words ≡ None) × (IsTooLongInput (feed_of (input_file_in words) 0 before) ⊎ IsMissing (input_file_in words) before.site.told))
