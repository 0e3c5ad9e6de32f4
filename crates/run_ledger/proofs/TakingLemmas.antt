-- How a run changes the failing set.
use Rattle.std.proofs.Common.{◌≡◌, ℕ, List, [], ◌++◌, ◌∙◌}
use Rattle.std.specs.List.{filter}
use Rattle.outcome_fold.specs.declared.row.Row.{Row}
use Rattle.outcome_fold.specs.Order.{in_byte_order}
use Rattle.outcome_fold.specs.Answers.{ids_of, row_fails, failing_of}
use Rattle.outcome_fold.proofs.SetLemmas.{order_again}

-- the set of a full run
pub full_set : (rows : List Row) (first ids new : List (List ℕ)) → first ≡ [] → ids ≡ failing_of rows → new ≡ in_byte_order (first ++ ids) → new ≡ failing_of rows
full_set rows first ids new none failing new-is = new-is ∙ (λ i. in_byte_order (none i ++ failing i)) ∙ order_again (ids_of (filter row_fails rows))
