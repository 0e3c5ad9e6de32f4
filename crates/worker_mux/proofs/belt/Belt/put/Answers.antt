use Rattle.worker_mux.proofs.Told.{puts_as}
use Rattle.worker_mux.proofs.belt.Belt.put.Goals as goal

pub push_as-requires-clause-rule : goal.push_as-requires-clause-rule
push_as-requires-clause-rule g c = (puts_as _ _ _ _ c.requires.packets c.requires.made_here.lane, λ _ _ _ _. tt)
