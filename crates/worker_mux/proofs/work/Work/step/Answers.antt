use Rattle.worker_mux.proofs.Going.{step_gives}
use Rattle.worker_mux.proofs.work.Work.step.Goals as goal

pub returns-in-Given-clause-gives : goal.returns-in-Given-clause-gives
returns-in-Given-clause-gives g c = step_gives g.C.Child.seen c.args.self.now.lane c.turn.new.self c.join-lot.new.lane c.in-Given.lot c.join-lot.result c.in-Given.ensures.gives c.join-lot.ensures.gives c.join-lot.ensures.lack
