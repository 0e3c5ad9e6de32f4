-- What is recorded of a run's lanes, and its rows.
use Rattle.std.specs.Prelude.{◌≡◌, ⊤, ℕ, ◌≤◌, ◌+◌, Bool, true, false, Option, Some, None, List, [], length, All, Result, Ok, Err, IfOk, IfErr}
use Rattle.std.specs.List.{flat_map}
use Rattle.sub_number.specs.declared.memory.NoMemory as memory
use Rattle.edge_io.specs.Causes.{RisesExactlyIf}
use Rattle.edge_io.specs.Disk.{Folder}
use Rattle.edge_io.specs.Seen.{Seen}
use Rattle.edge_io.specs.Steps.{Goes, Grown}
use Rattle.outcome_fold.specs.Summed.{Sums}
use Rattle.outcome_fold.specs.declared.row.Row.{Row}
use Rattle.outcome_fold.specs.declared.summary.Summary.{Summary}
use Rattle.packet_codec.specs.Canonical.{canonical, IsEvent, Fits}
use Rattle.packet_codec.specs.declared.event.Event.{Event}
use Rattle.packet_codec.specs.Lanes.{joined}
use Rattle.run_ledger.specs.Reading.{AreRowsOf}
use Rattle.run_ledger.specs.Writing.{HasWrittenRun}
use Rattle.run_ledger.specs.declared.written_run.WrittenRun.{WrittenRun}
use Rattle.run_shelf.specs.Drafts.{SameButDraft}
use Rattle.run_shelf.specs.declared.faults.ShelfCall.{ShelfCall}
use Rattle.run_shelf.specs.declared.faults.ShelfCall.TheVariants.{Append}
use Rattle.suite_run.specs.declared.lane_recorder.LanesRefusal.{LanesRefusal}
use Rattle.suite_run.specs.declared.lane_recorder.LanesRefusal.TheVariants.{Shelf, NoMemory}
use Rattle.worker_lane.specs.declared.lot.Lot.{Lot}
use Rattle.worker_mux.specs.Callers.{Tape}
use Rattle.worker_mux.specs.Runs.{AddsMerge}

-- the recording was refused since a call of the folder failed; want of memory is no such failure
abbrev pub lanes_failed : {T : Type 0} → Result T LanesRefusal → Bool
lanes_failed (Ok done) = false
lanes_failed (Err (Shelf call)) = true
lanes_failed (Err NoMemory) = false

-- a call of the folder that failed is one that adds to the draft
abbrev pub TellsOfAppend : LanesRefusal → Type 0
TellsOfAppend (Shelf call) = call ≡ Append
TellsOfAppend NoMemory = ⊤

-- behind the draft stand the packets of a merge, and these are the rows of their bytes
pub record AddsRows (rests : List (Option (List Lot))) (old new : Option Folder) (rows : List Row) : Type 0 where
  pub merge : AddsMerge rests old new
  pub rows_are : AreRowsOf (flat_map canonical merge.events) rows

-- the same, by at most one call of the folder for each packet, and this is kept of the rows
pub record AddsSums (filter_tags : List (List ℕ)) (rests : List (Option (List Lot))) (old new : Tape) (summary : Summary) : Type 0 where
  pub rows : List Row
  pub adds : AddsRows rests old.folder.told new.folder.told rows
  pub sums : Sums filter_tags rows summary
  pub few : new.clock ≤ old.clock + length adds.merge.events

-- behind the draft stand the packets of events, and from the one clock to the other there was at most one call of the folder
-- for each
pub record AddsByFew (old new : Option Folder) (before now : ℕ) : Type 0 where
  pub events : List Event
  pub are_events : All IsEvent events
  pub fit : All Fits events
  pub added : Goes old new (Grown (flat_map canonical events))
  pub few : now ≤ before + length events

-- The recording of lanes that have this to give, where it is told, behind the draft. It gives the rows of what was added.
pub record RecordsLanes (rests : List (Option (List Lot))) (before after : Seen Folder) (result : Result (List Row) LanesRefusal) : Type 0 where
  pub recorded : IfOk result (AddsRows rests before.told after.told)
  pub refused : IfErr result TellsOfAppend
  pub files : Goes before.told after.told SameButDraft
  pub sum : RisesExactlyIf before.faults after.faults (lanes_failed result)
