-- An answer that speaks of rows, of which it gives no more than what is kept (docs/FORMATS.md, "What the rows say").
use Rattle.std.specs.Prelude.{ℕ, List, Result, IfOk}
use Rattle.outcome_fold.specs.Summed.{Sums, with_rows}
use Rattle.outcome_fold.specs.declared.row.Row.{Row}
use Rattle.outcome_fold.specs.declared.summary.Summary.{Summary}

-- What is given is kept of some rows, where these tags filter; and this holds of the answer with these rows in its place.
pub record GivesSums {E : Type 0} (filter_tags : List (List ℕ)) (Holds : Result (List Row) E → Type 0) (result : Result Summary E) : Type 0 where
  pub rows : List Row
  pub sums : IfOk result (Sums filter_tags rows)
  pub holds : Holds (with_rows rows result)
