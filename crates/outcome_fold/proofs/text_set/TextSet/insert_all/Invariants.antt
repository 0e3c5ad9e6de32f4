use Rattle.std.proofs.Common.{◌≡◌, ◌++◌, take}
use Rattle.outcome_fold.specs.Order.{in_byte_order}
use Rattle.outcome_fold.proofs.text_set.TextSet.insert_all.Given as goal

abbrev pub invariant-loop-text : goal.invariant-loop-text
invariant-loop-text l = l.self ≡ in_byte_order (l.fn.self ++ take l.text-index l.texts)
