use Rattle.std.proofs.Common.{◌≡◌, ◌++◌}
use Rattle.outcome_fold.proofs.text_set.TextSet.into_ids.Given as goal

abbrev pub invariant-loop-text : goal.invariant-loop-text
invariant-loop-text l = l.ids ++ l.text-iterator ≡ l.initial.text-iterator
