use Rattle.std.proofs.Common.{sym}
use Rattle.outcome_fold.proofs.OpenLemmas.{no_others, remove_none}
use Rattle.outcome_fold.proofs.TableLemmas.{removed}
use Rattle.outcome_fold.proofs.OrderLemmas.{tests_total, exact_tests}
use Rattle.outcome_fold.proofs.fold.Fold.forget.Goals as goal

pub returns-then-is_empty-clause-others : goal.returns-then-is_empty-clause-others
returns-then-is_empty-clause-others c = sym (remove_none _ _ (no_others c.args.self.now.others.entries _ (c.is_empty.ensures.0 c.if-is_empty.true)))

pub returns-clause-others : goal.returns-clause-others
returns-clause-others c = removed tests_total exact_tests _ _ _ c.remove.ensures.updates.0
