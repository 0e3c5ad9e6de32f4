use Rattle.std.proofs.Common.{◌∷◌, [], ◌++◌, refl, sym, append_assoc}
use Rattle.outcome_fold.proofs.FoldLemmas.{append_none}
use Rattle.outcome_fold.proofs.SummedLemmas.{same_sums}
use Rattle.outcome_fold.proofs.summary.Summary.take_all.Goals as goal

pub loop-row-init : goal.loop-row-init
loop-row-init c = λ before sums. same_sums _ _ _ _ _ refl (sym (append_none before)) sums

pub loop-row-preserved : goal.loop-row-preserved
loop-row-preserved c = λ before sums. same_sums _ _ _ _ _ refl (append_assoc before c.loop-row.yielded (c.in-Some.row ∷ [])) (c.in_ok-take.ensures (before ++ c.loop-row.yielded) (c.loop-row.invariant before sums))
