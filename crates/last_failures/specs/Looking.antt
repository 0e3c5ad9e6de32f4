-- What a search that goes from the last run back has found.
use Rattle.std.specs.Prelude.{◌≡◌, ℕ, Bool, true, is_none, List}
use Rattle.std.specs.FinMap as fin
use Rattle.std.specs.FinMap.{FinMap}
use Rattle.edge_io.specs.Disk.{Folder}
use Rattle.packet_codec.specs.declared.event.Event.{Event}
use Rattle.outcome_fold.specs.declared.row.Row.{Row}
use Rattle.outcome_fold.specs.Order.{text_cmp, among}
use Rattle.last_failures.specs.Last.{last_failure, failures_of_runs, failures_in, ShowEventsFrom}
use Rattle.last_failures.specs.declared.failures.Failure.{Failure}
use Rattle.last_failures.specs.declared.search_state.SearchState.{SearchState}

-- a row, and these packets of it
abbrev pub with_packets : (Row → List ℕ) → Row → Failure
with_packets packets row = record { row = row; packets = packets row }

-- these were looked at: each of the ids has its last failure in them, or is missing still
pub record HasLookedUp (ids : List (List ℕ)) (failures : List Failure) (missing : List (List ℕ)) (found : FinMap text_cmp Failure) : Type 0 where
  pub missing_are : (id : List ℕ) → among ids id ≡ true → among missing id ≡ is_none (last_failure failures id)
  pub found_are : (id : List ℕ) → among ids id ≡ true → fin.get found id ≡ last_failure failures id

-- a search for these ids has looked at these rows: it holds the last failure of each, or misses it still
abbrev pub Looks : List (List ℕ) → List Failure → SearchState → Type 0
Looks ids failures search = HasLookedUp ids failures search.missing (failures_in search.found)

-- the search has looked at the rows of all runs of the folder from this number on
pub record LooksFrom (packets : Bool) (ids : List (List ℕ)) (number : ℕ) (search : SearchState) (s : Folder) : Type 0 where
  pub events : List (List Event)
  pub behind : ShowEventsFrom s.disk.published number events
  pub looks : Looks ids (failures_of_runs packets events) search

-- a search that had looked at the runs from one number on has looked at those from another number on
abbrev pub LooksOn : (packets : Bool) → (number next : ℕ) → (before after : SearchState) → Folder → Type 0
LooksOn packets number next before after s = (ids : List (List ℕ)) → LooksFrom packets ids number before s → LooksFrom packets ids next after s
