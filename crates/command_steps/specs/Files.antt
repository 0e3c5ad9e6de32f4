-- The step that records files, one after another (docs/FORMATS.md, "What is recorded of a stream"): the first under lane 0,
-- the next under lane 1, and so on.
use Rattle.std.specs.Prelude.{◌≡◌, ◌⊎◌, ℕ, ◌+◌, ◌<◌, ◌≤◌, Option, Some, None, IfSome, IsSomeAnd, IfOk, IfErr, List, [], ◌∷◌, ◌++◌, length, map, All, Result, Ok, Err}
use Rattle.edge_io.specs.Causes.{Rose}
use Rattle.edge_io.specs.Disk.{Files}
use Rattle.edge_io.specs.Seen.{Seen}
use Rattle.outcome_fold.specs.declared.summary.Summary.{Summary}
use Rattle.edge_io.specs.Steps.{Goes, Grown}
use Rattle.edge_io.specs.Limits.{most_bytes}
use Rattle.outcome_fold.specs.declared.row.Row.{Row}
use Rattle.packet_codec.specs.Grammar.{AreBytes}
use Rattle.packet_codec.specs.declared.event.Event.{Event}
use Rattle.run_ledger.specs.Reading.{AreRowsOf}
use Rattle.run_shelf.specs.Drafts.{SameButDraft}
use Rattle.run_shelf.specs.declared.faults.ShelfCall.TheVariants.{Append}
use Rattle.worker_lane.specs.Recorded.{HasRecorded, IsRecorded}
use Rattle.worker_lane.specs.Scribing.{Scribing, Recording}
use Rattle.command_steps.specs.Outside.{Work, Filed, fed, work_fed, work_filed}
use Rattle.command_steps.specs.Recording.{Records, RecordsBytes, HasRecordCause}
use Rattle.command_steps.specs.declared.files.Recorded.{Recorded}
use Rattle.command_steps.specs.Runs.{run_bytes}
use Rattle.command_steps.specs.Steps.{Step, At}
use Rattle.command_steps.specs.declared.input_recorder.RecordFault.{RecordFault}
use Rattle.command_steps.specs.declared.input_recorder.RecordFault.TheVariants.{Shelf, Input, TooLong, Site, NoFile, FileTooLong, NoMemory}

-- ---- sources, and what is recorded of them in turn

-- these are the bytes of the files of these names, in their order, where they are told
pub record AreFiles (names : List (List ℕ)) (told : Option Files) (sources : List (List ℕ)) : Type 0 where
  pub count : length sources ≡ length names
  pub are : IfSome told (λ files. map files names ≡ map (λ bytes. Some bytes) sources)

-- What is recorded: the bytes of the input where no file is named, else those of the files.
abbrev pub AreSources : List (List ℕ) → Option Files → (left : Option (List ℕ)) → List (List ℕ) → Type 0
AreSources [] told left sources = (bytes : List ℕ) × (sources ≡ bytes ∷ []) × IfSome left (λ given. given ≡ bytes)
AreSources (name ∷ names) told left sources = AreFiles (name ∷ names) told sources

-- the events that are recorded of the first source under this lane, then those of the next under the next lane, and so on
abbrev pub HasRecordedInTurn : (lane : ℕ) → List (List ℕ) → List Event → Type 0
HasRecordedInTurn lane [] events = events ≡ []
HasRecordedInTurn lane (source ∷ sources) events = (front rest : List Event) × (events ≡ front ++ rest) × HasRecorded lane source front × HasRecordedInTurn (lane + 1) sources rest

-- ---- one file

-- no call failed
pub record NoneFailedFiling (before after : Filed) : Type 0 where
  pub folder : after.folder.faults ≡ before.folder.faults
  pub site : after.site.faults ≡ before.site.faults

-- these are the first bytes of the file, where that is told
abbrev pub AreFrontOf : List ℕ → Option Files → List ℕ → Type 0
AreFrontOf name told bytes = IfSome told (λ files. IfSome (files name) (λ all. (rest : List ℕ) × (all ≡ bytes ++ rest)))

-- these are all bytes of the file of this name, where the files are told
abbrev pub IsFile : List ℕ → Option Files → List ℕ → Type 0
IsFile name told bytes = IfSome told (λ files. files name ≡ Some bytes)

-- The file was read to its end, the packets that its bytes decide stand in the draft, and were heard as this says; the scribe was
-- not told of an end.
pub record RecordsFilePieces (name : List ℕ) (before after : Filed) (scribe : Scribing) (heard : List ℕ → Type 0) : Type 0 where
  pub bytes : List ℕ
  pub whole : IsFile name before.site.told bytes
  pub size : length bytes ≤ most_bytes
  pub run : List ℕ
  pub recording : Recording bytes scribe run
  pub was_heard : heard run
  pub are_bytes : AreBytes run
  pub written : Goes before.folder.told after.folder.told (Grown run)
  pub counts : NoneFailedFiling before after
  pub files : after.site.told ≡ before.site.told

-- what is recorded of the file under the lane was written behind the draft, and heard as this says
pub record RecordsFile (lane : ℕ) (name : List ℕ) (before after : Filed) (heard : List ℕ → Type 0) : Type 0 where
  pub bytes : List ℕ
  pub whole : IsFile name before.site.told bytes
  pub bytes_are : AreBytes bytes
  pub size : length bytes ≤ most_bytes
  pub run : List ℕ
  pub recorded : IsRecorded lane bytes run
  pub was_heard : heard run
  pub are_bytes : AreBytes run
  pub written : Goes before.folder.told after.folder.told (Grown run)
  pub counts : NoneFailedFiling before after
  pub files : after.site.told ≡ before.site.told

-- the cause of a refusal at this file
abbrev pub HasFileCause : List ℕ → Filed → Filed → RecordFault → Type 0
HasFileCause name before after (Shelf call) = Rose before.folder.faults after.folder.faults × (after.site.faults ≡ before.site.faults) × (call ≡ Append)
HasFileCause name before after Input = ⊥
HasFileCause name before after TooLong = ⊥
HasFileCause name before after Site = Rose before.site.faults after.site.faults × (after.folder.faults ≡ before.folder.faults)
HasFileCause name before after (NoFile given) = (given.now ≡ name) × IfSome before.site.told (λ files. files name ≡ None) × NoneFailedFiling before after
HasFileCause name before after (FileTooLong given) = (given.now ≡ name) × IfSome before.site.told (λ files. IsSomeAnd (files name) (λ bytes. most_bytes < length bytes)) × NoneFailedFiling before after
HasFileCause name before after NoMemory = NoneFailedFiling before after

-- ---- all files

-- so were the files of these names, in turn
pub record RecordsInTurn (names : List (List ℕ)) (before after : Filed) (run : List ℕ) : Type 0 where
  pub few : length names ≤ 64
  pub sources : List (List ℕ)
  pub are_files : AreFiles names before.site.told sources
  pub are_bytes : All AreBytes sources
  pub sizes : All (λ bytes. length bytes ≤ most_bytes) sources
  pub events : List Event
  pub recorded : HasRecordedInTurn 0 sources events
  pub packets : run ≡ run_bytes events
  pub run_is : AreBytes run
  pub written : Goes before.folder.told after.folder.told (Grown run)
  pub counts : NoneFailedFiling before after
  pub files : after.site.told ≡ before.site.told

-- all files were read and recorded, one after another, and these are the rows
pub record RecordsAllFiles (names : List (List ℕ)) (rows : List Row) (before after : Filed) : Type 0 where
  pub run : List ℕ
  pub recorded : RecordsInTurn names before after run
  pub rows_are : AreRowsOf run rows

-- The first file that refuses decides, behind others that were recorded. Want of memory may come at it too, as at no file.
pub record StopsAtFile (names : List (List ℕ)) (before after : Filed) (fault : RecordFault) : Type 0 where
  pub done : List (List ℕ)
  pub name : List ℕ
  pub rest : List (List ℕ)
  pub names_are : names ≡ done ++ name ∷ rest
  pub between : Filed
  pub run : List ℕ
  pub recorded : RecordsInTurn done before between run
  pub cause : HasFileCause name between after fault

-- why files are not recorded: one of them stops it, or memory is wanting
abbrev pub HasFilesCause : List (List ℕ) → Filed → Filed → RecordFault → Type 0
HasFilesCause names before after fault = StopsAtFile names before after fault ⊎ ((fault ≡ NoMemory) × NoneFailedFiling before after)

-- at each exit nothing of the folder but the draft has changed, and no file
pub record RecordsFiles (names : List (List ℕ)) (before after : Filed) (result : Result (List Row) RecordFault) : Type 0 where
  pub recorded : IfOk result (λ rows. RecordsAllFiles names rows before after)
  pub refused : IfErr result (HasFilesCause names before after)
  pub rests : Goes before.folder.told after.folder.told SameButDraft
  pub files : after.site.told ≡ before.site.told

-- ---- what was heard

-- The input was recorded where no file is named, else the files, and heard as this says; or why it was not.
abbrev pub HearsSources : List (List ℕ) → (before : Filed) → (input : Seen (List ℕ)) → (after : Filed) → (input_then : Seen (List ℕ)) → (heard : List ℕ → Type 0) → Result (Unit {0}) RecordFault → Type 0
HearsSources [] before input after input_then heard (Ok done) = (after.site ≡ before.site) × RecordsBytes (fed before.folder input) (fed after.folder input_then) heard
HearsSources [] before input after input_then heard (Err fault) = (after.site ≡ before.site) × HasRecordCause (fed before.folder input) (fed after.folder input_then) fault
HearsSources (name ∷ names) before input after input_then heard (Ok done) = (input_then ≡ input) × (after.site.told ≡ before.site.told) × (run : List ℕ) × RecordsInTurn (name ∷ names) before after run × heard run
HearsSources (name ∷ names) before input after input_then heard (Err fault) = (input_then ≡ input) × (after.site.told ≡ before.site.told) × HasFilesCause (name ∷ names) before after fault

-- of what was recorded what is kept of the rows alone
abbrev pub summary_of : {E : Type 0} → Result Recorded E → Result Summary E
summary_of (Ok recorded) = Ok recorded.summary
summary_of (Err fault) = Err fault

-- ---- the step

-- the input is recorded where no file is named, else the files
abbrev pub RecordsSources : List (List ℕ) → Step Work (List Row) RecordFault
RecordsSources [] = At work_fed Records
RecordsSources (name ∷ names) = At work_filed (RecordsFiles (name ∷ names))
