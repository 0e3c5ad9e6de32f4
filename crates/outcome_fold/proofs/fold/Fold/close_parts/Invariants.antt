use Rattle.std.proofs.Common.{◌≡◌, ◌++◌, map}
use Rattle.outcome_fold.proofs.CloseLemmas.{part_of_entry}
use Rattle.outcome_fold.proofs.fold.Fold.close_parts.Given as goal

abbrev pub invariant-loop-key : goal.invariant-loop-key
invariant-loop-key l = l.parts.items ++ map part_of_entry l.key-iterator ≡ map part_of_entry l.initial.key-iterator
