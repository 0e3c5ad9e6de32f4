use Rattle.outcome_fold.proofs.SetLemmas.{set_removed}
use Rattle.last_failures.proofs.ids_without_row.IdsWithoutRow.take_out.Goals as goal

pub returns : goal.returns
returns c = rw (← c.self.view_is) (set_removed _ _ _ c.self.invariant c.remove.ensures.ordered c.remove.ensures.updates.0)
