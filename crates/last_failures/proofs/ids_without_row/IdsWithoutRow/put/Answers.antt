use Rattle.outcome_fold.proofs.SetLemmas.{set_inserted}
use Rattle.last_failures.proofs.ids_without_row.IdsWithoutRow.put.Goals as goal

pub returns : goal.returns
returns c = rw (← c.self.view_is) (set_inserted _ _ _ c.in_ok-insert.ensures.ordered c.in_ok-insert.ensures.updates.0)
