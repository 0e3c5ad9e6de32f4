use Rattle.std.proofs.Common.{◌≡◌, ◌++◌}
use Rattle.outcome_fold.specs.Order.{in_byte_order}
use Rattle.outcome_fold.proofs.text_set.TextSet.put_all.Given as goal

abbrev pub invariant-loop-id : goal.invariant-loop-id
invariant-loop-id l = l.self ≡ in_byte_order (l.fn.self ++ l.yielded)
