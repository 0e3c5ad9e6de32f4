use Rattle.worker_lane.proofs.LaneLemmas.{new_rest}
use Rattle.worker_lane.proofs.lane.Lane.new.Goals as goal

pub returns-clause-rest : goal.returns-clause-rest
returns-clause-rest g c = new_rest _ c.args.number c.args.ids.now _ c.in-Ok.ensures
