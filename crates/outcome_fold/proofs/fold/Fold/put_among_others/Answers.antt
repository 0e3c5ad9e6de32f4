use Rattle.std.proofs.Common.{◌∙◌, ap}
use Rattle.outcome_fold.specs.Folded.{other_parts_in, with_held}
use Rattle.outcome_fold.proofs.TableLemmas.{inserted}
use Rattle.outcome_fold.proofs.OrderLemmas.{tests_total, exact_tests}
use Rattle.outcome_fold.proofs.fold.Fold.put_among_others.Goals as goal

pub returns-in-Ok-clause-ok : goal.returns-in-Ok-clause-ok
returns-in-Ok-clause-ok c =
    (c.in-Some.ensures.after, inserted tests_total exact_tests _ _ _ _ c.in-Ok.ensures.updates.0 ∙ ap (λ o. with_held o (other_parts_in c.args.self.now)) c.in-Some.ensures.value)
