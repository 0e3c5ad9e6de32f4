-- The last failures of ids (docs/FORMATS.md, "What the runs say together").
use Rattle.std.specs.Prelude.{◌≡◌, ⊤, ℕ, Bool, true, ◌&&◌, Option, None, Some, List, [], ◌∷◌, map, drop, if◌then◌else◌}
use Rattle.std.specs.FinMap as fin
use Rattle.std.specs.FinMap.{FinMap}
use Rattle.std.specs.List.{flat_map}
use Rattle.std.specs.Ordering.{eq_by_cmp}
use Rattle.edge_io.specs.Disk.{Files, Folder}
use Rattle.packet_codec.specs.declared.event.Event.{Event}
use Rattle.stream_reader.specs.Notes.{HasEvents}
use Rattle.outcome_fold.specs.declared.row.Row.{Row}
use Rattle.outcome_fold.specs.Answers.{row_fails}
use Rattle.outcome_fold.specs.Order.{text_cmp, among}
use Rattle.outcome_fold.specs.Rows.{rows_of}
use Rattle.run_shelf.specs.Repository.{Run, Shows}
use Rattle.last_failures.specs.declared.failures.Failure.{Failure}
use Rattle.last_failures.specs.declared.failures.LastFailures.{LastFailures}
use Rattle.last_failures.specs.Parts.{failure_packets}

-- the row fails, and is of this id
abbrev pub is_failure_of : List ℕ → Row → Bool
is_failure_of id row = row_fails row && eq_by_cmp text_cmp id row.id

-- the later one, where there is one, or else this one, where it counts
abbrev pub or_this : (later : Option Failure) → (counts : Bool) → Failure → Option Failure
or_this None counts failure = if counts then Some failure else None
or_this (Some later) counts failure = Some later

-- the last of these whose row fails and is of this id
abbrev pub last_failure : List Failure → (id : List ℕ) → Option Failure
last_failure [] id = None
last_failure (failure ∷ failures) id = or_this (last_failure failures id) (is_failure_of id failure.row) failure

-- a row, and the packets of the part of its test that failed last, where packets are wanted
abbrev pub failure_in : (packets : Bool) → List Event → Row → Failure
failure_in packets es row = record { row = row; packets = if packets then failure_packets es row else [] }

-- each row of a run of these events, with its packets where packets are wanted
abbrev pub failures_of : (packets : Bool) → List Event → List Failure
failures_of packets es = map (failure_in packets es) (rows_of es)

-- the rows of all runs so, run by run, the first run first
abbrev pub failures_of_runs : (packets : Bool) → List (List Event) → List Failure
failures_of_runs packets runs = flat_map (failures_of packets) runs

-- the last failures that were found, by id
abbrev pub failures_in : LastFailures → FinMap text_cmp Failure
failures_in failures = fin.from_entries {R = text_cmp} failures.failures.entries

-- each of the runs has these events
abbrev pub AreRunEvents : List Run → List (List Event) → Type 0
AreRunEvents [] [] = ⊤
AreRunEvents [] (events ∷ others) = ⊥
AreRunEvents (run ∷ runs) [] = ⊥
AreRunEvents (run ∷ runs) (events ∷ others) = HasEvents run.bytes events × AreRunEvents runs others

-- the events of the runs that the files show, from this number on
pub record ShowEventsFrom (files : Files) (number : ℕ) (events : List (List Event)) : Type 0 where
  pub runs : List Run
  pub shown : Shows files runs
  pub are : AreRunEvents (drop number runs) events

-- What was found is, of each of the ids, its last failure in all runs of the folder, with its packets, where they are wanted.
pub record AreLastFailures (packets : Bool) (ids : List (List ℕ)) (found : FinMap text_cmp Failure) (s : Folder) : Type 0 where
  pub events : List (List Event)
  pub shown : ShowEventsFrom s.disk.published 0 events
  pub found_are : (id : List ℕ) → among ids id ≡ true → fin.get found id ≡ last_failure (failures_of_runs packets events) id
