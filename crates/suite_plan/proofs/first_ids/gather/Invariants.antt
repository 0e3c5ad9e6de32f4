use Rattle.std.proofs.Common.{◌≡◌, ◌++◌, ℕ, List}
use Rattle.suite_plan.specs.FirstIds.{HasFirsts}
use Rattle.suite_plan.proofs.first_ids.gather.Given as goal

-- some ids came, and the rest stands behind them
abbrev pub invariant-loop-id : goal.invariant-loop-id
invariant-loop-id l = (came : List (List ℕ)) × HasFirsts l.found came × (came ++ l.id-iterator.rest.items ≡ l.fn.ids.items)
