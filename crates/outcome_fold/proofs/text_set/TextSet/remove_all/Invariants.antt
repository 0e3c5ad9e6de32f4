use Rattle.std.proofs.Common.{◌≡◌, take}
use Rattle.outcome_fold.specs.Order.{without}
use Rattle.outcome_fold.proofs.text_set.TextSet.remove_all.Given as goal

abbrev pub invariant-loop-text : goal.invariant-loop-text
invariant-loop-text l = l.self ≡ without l.fn.self (take l.text-index l.texts)
