use Rattle.std.proofs.Common.{◌≡◌, ◌≤◌, ◌++◌, List, ℕ, true, map, drop, length}
use Rattle.outcome_fold.specs.declared.row.Row.{Row}
use Rattle.outcome_fold.specs.Order.{among}
use Rattle.last_failures.specs.declared.failures.Failure.{Failure}
use Rattle.last_failures.specs.Gathering.{packets_of_row}
use Rattle.last_failures.specs.Looking.{Looks, with_packets}
use Rattle.last_failures.proofs.search_state.SearchState.take_rows.Given as goal

-- the rows from this place on were looked at, and no id is missing that was not missing before
abbrev pub invariant-loop-place : goal.invariant-loop-place
invariant-loop-place l = record {
  within : l.place ≤ length l.rows;
  looked : (ids : List (List ℕ)) (later : List Failure) (packets : Row → List ℕ) → ((row : Row) → among l.fn.self.missing row.id ≡ true → packets_of_row l.parts row ≡ packets row) → Looks ids later l.fn.self → Looks ids (map (with_packets packets) (drop l.place l.rows) ++ later) l.self;
  fewer : (id : List ℕ) → among l.self.missing id ≡ true → among l.fn.self.missing id ≡ true;
}

abbrev pub decreases-loop-place : goal.decreases-loop-place
decreases-loop-place l = l.place
