use Rattle.std.proofs.Common.{◌≡◌, map}
use Rattle.std.specs.Map.Iter.{deref}
use Rattle.outcome_fold.specs.Order.{without}
use Rattle.outcome_fold.proofs.text_set.TextSet.remove_set.Given as goal

abbrev pub invariant-loop-text : goal.invariant-loop-text
invariant-loop-text l = l.self ≡ without l.fn.self (map deref l.yielded)
