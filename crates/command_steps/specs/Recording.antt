-- The step that records an input as it is read (docs/FORMATS.md, "What is recorded of a stream"): what it does to the
-- draft and the input, why it refuses, and what it says then.
use Rattle.std.specs.Prelude.{◌≡◌, Result, ℕ, ◌+◌, ◌<◌, ◌≤◌, Option, IfSome, IfOk, IfErr, List, [], ◌++◌, length, codes}
use Rattle.std.specs.Io.KnownBytes.{Consumes, IsAtEnd}
use Rattle.edge_io.specs.Causes.{Rose}
use Rattle.edge_io.specs.Disk.{Folder}
use Rattle.edge_io.specs.Seen.{Seen}
use Rattle.edge_io.specs.Steps.{Goes, Grown}
use Rattle.edge_io.specs.Limits.{most_bytes, most_at_once}
use Rattle.outcome_fold.specs.declared.row.Row.{Row}
use Rattle.packet_codec.specs.Grammar.{AreBytes}
use Rattle.run_ledger.specs.Reading.{AreRowsOf}
use Rattle.run_shelf.specs.Drafts.{SameButDraft}
use Rattle.run_shelf.specs.declared.faults.ShelfCall.TheVariants.{Append}
use Rattle.worker_lane.specs.Recorded.{IsRecorded}
use Rattle.worker_lane.specs.Scribing.{Scribing, Recording, GivesPacket, GivesPackets}
use Rattle.command_steps.specs.Outside.{Fed}
use Rattle.command_steps.specs.declared.input_recorder.RecordFault.{RecordFault}
use Rattle.command_steps.specs.declared.input_recorder.RecordFault.TheVariants.{Shelf, Input, TooLong, Site, NoFile, FileTooLong, NoMemory}

-- some bytes of the input were read, no more than it may have
pub record ReadsFew (left after : Option (List ℕ)) : Type 0 where
  pub bytes : List ℕ
  pub read : Consumes left after bytes
  pub few : length bytes ≤ most_bytes

-- with the last read, more bytes were read than the input may have
pub record ReadsTooMany (left after : Option (List ℕ)) : Type 0 where
  pub bytes : List ℕ
  pub read : Consumes left after bytes
  pub many : most_bytes < length bytes
  pub few : length bytes ≤ most_bytes + most_at_once

-- the input was read to its end, and is not too long
pub record ReadsInput (left after : Option (List ℕ)) (bytes : List ℕ) : Type 0 where
  pub read : Consumes left after bytes
  pub at_end : IsAtEnd after
  pub size : length bytes ≤ most_bytes
  pub are_bytes : AreBytes bytes

-- the input was read whole, and the run is what is recorded of it under lane 0
abbrev pub RecordsInput : Option (List ℕ) → Option (List ℕ) → List ℕ → Type 0
RecordsInput left after run = (bytes : List ℕ) × ReadsInput left after bytes × IsRecorded 0 bytes run

-- no call failed
pub record NoneFailed (before after : Fed) : Type 0 where
  pub folder : after.folder.faults ≡ before.folder.faults
  pub input : after.input.faults ≡ before.input.faults

-- Some bytes of the input were read, the packets that they decide stand in the draft, and were heard as this says; the scribe was
-- not told of an end.
pub record RecordsPieces (before after : Fed) (scribe : Scribing) (heard : List ℕ → Type 0) : Type 0 where
  pub bytes : List ℕ
  pub read : Consumes before.input.told after.input.told bytes
  pub at_end : IsAtEnd after.input.told
  pub size : length bytes ≤ most_bytes
  pub run : List ℕ
  pub recording : Recording bytes scribe run
  pub was_heard : heard run
  pub are_bytes : AreBytes run
  pub written : Goes before.folder.told after.folder.told (Grown run)
  pub counts : NoneFailed before after

-- packets of fewer bytes than this may be kept back from the draft, until the next one is given
abbrev pub most_gathered : ℕ
most_gathered = 65536

-- the last of the packets that were gathered was given while fewer bytes were
pub record IsOneMore (scribe : Scribing) (packets : List ℕ) : Type 0 where
  pub before : Scribing
  pub front : List ℕ
  pub few : length front < most_gathered
  pub last : GivesPacket before front scribe packets

-- some packets were given in order, written behind the draft, and heard as this says
pub record WritesPackets (before after : Seen Folder) (scribe now : Scribing) (heard : List ℕ → Type 0) : Type 0 where
  pub run : List ℕ
  pub given : GivesPackets scribe [] now run
  pub are_bytes : AreBytes run
  pub written : Goes before.told after.told (Grown run)
  pub was_heard : heard run
  pub count : after.faults ≡ before.faults

-- what is recorded of the input was written behind the draft, and heard as this says
pub record RecordsBytes (before after : Fed) (heard : List ℕ → Type 0) : Type 0 where
  pub run : List ℕ
  pub recorded : RecordsInput before.input.told after.input.told run
  pub are_bytes : AreBytes run
  pub written : Goes before.folder.told after.folder.told (Grown run)
  pub counts : NoneFailed before after
  pub was_heard : heard run

-- what is recorded of the input was written behind the draft, and these are its rows
pub record RecordsAll (rows : List Row) (before after : Fed) : Type 0 where
  pub run : List ℕ
  pub recorded : RecordsInput before.input.told after.input.told run
  pub are_bytes : AreBytes run
  pub rows_are : AreRowsOf run rows
  pub written : Goes before.folder.told after.folder.told (Grown run)
  pub counts : NoneFailed before after

-- The cause of each refusal, and what was read by then. The count rises of the part that failed, and the other stands. Of
-- the folder's calls only the one that adds to the draft can fail.
abbrev pub HasRecordCause : Fed → Fed → RecordFault → Type 0
HasRecordCause before after (Shelf call) = Rose before.folder.faults after.folder.faults × (after.input.faults ≡ before.input.faults) × (call ≡ Append) × ReadsFew before.input.told after.input.told
HasRecordCause before after Input = Rose before.input.faults after.input.faults × (after.folder.faults ≡ before.folder.faults) × ReadsFew before.input.told after.input.told
HasRecordCause before after TooLong = IfSome before.input.told (λ bytes. most_bytes < length bytes) × NoneFailed before after × ReadsTooMany before.input.told after.input.told
HasRecordCause before after Site = ⊥
HasRecordCause before after (NoFile name) = ⊥
HasRecordCause before after (FileTooLong name) = ⊥
HasRecordCause before after NoMemory = NoneFailed before after × ReadsFew before.input.told after.input.told

-- the same where nothing is read
abbrev pub HasWriteCause : Seen Folder → Seen Folder → RecordFault → Type 0
HasWriteCause before after (Shelf call) = Rose before.faults after.faults × (call ≡ Append)
HasWriteCause before after Input = ⊥
HasWriteCause before after TooLong = ⊥
HasWriteCause before after Site = ⊥
HasWriteCause before after (NoFile name) = ⊥
HasWriteCause before after (FileTooLong name) = ⊥
HasWriteCause before after NoMemory = after.faults ≡ before.faults

-- at each exit nothing of the folder but the draft has changed
pub record Records (before after : Fed) (result : Result (List Row) RecordFault) : Type 0 where
  pub recorded : IfOk result (λ rows. RecordsAll rows before after)
  pub refused : IfErr result (HasRecordCause before after)
  pub rests : Goes before.folder.told after.folder.told SameButDraft

-- the exit status where the input is not recorded so: 3 for what is missing or too long, 4 where a call failed, 5 where
-- memory was wanting
abbrev pub record_exit_status : RecordFault → ℕ
record_exit_status (Shelf call) = 4
record_exit_status Input = 4
record_exit_status TooLong = 3
record_exit_status Site = 4
record_exit_status (NoFile name) = 3
record_exit_status (FileTooLong name) = 3
record_exit_status NoMemory = 5

-- the line where the input is not recorded so
abbrev pub record_text : RecordFault → List ℕ
record_text (Shelf call) = codes "testr: fault of the repository folder\n"
record_text Input = codes "testr: fault reading standard input\n"
record_text TooLong = codes "testr: standard input is too long\n"
record_text Site = codes "testr: fault reading a file\n"
record_text (NoFile name) = codes "testr: no file " ++ name.now ++ codes "\n"
record_text (FileTooLong name) = codes "testr: " ++ name.now ++ codes " is too long\n"
record_text NoMemory = codes "testr: out of memory\n"
