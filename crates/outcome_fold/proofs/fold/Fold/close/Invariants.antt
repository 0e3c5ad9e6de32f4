use Rattle.std.proofs.Common.{◌≡◌, ◌++◌, map}
use Rattle.outcome_fold.proofs.CloseLemmas.{row_of_open}
use Rattle.outcome_fold.proofs.fold.Fold.close.Given as goal

abbrev pub invariant-loop-key : goal.invariant-loop-key
invariant-loop-key l = l.rows.items ++ map row_of_open l.key-iterator ≡ map row_of_open l.initial.key-iterator
