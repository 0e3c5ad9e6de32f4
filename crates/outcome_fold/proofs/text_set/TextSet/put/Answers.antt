use Rattle.outcome_fold.proofs.SetLemmas.{set_inserted}
use Rattle.outcome_fold.proofs.text_set.TextSet.put.Goals as goal

pub returns-clause-ok : goal.returns-clause-ok
returns-clause-ok c = rw (← c.self.view_is) (set_inserted _ _ _ c.in_ok-insert.ensures.ordered c.in_ok-insert.ensures.updates.0)
