use Rattle.std.proofs.Common.{subst, sym}
use Rattle.worker_mux.specs.Rule.{FirstPartsTaken, OfLanes}
use Rattle.worker_mux.proofs.Told.{learns_as, first_parts}
use Rattle.worker_mux.proofs.belt.Belt.look.Goals as goal

pub learn_as-requires-clause-rule : goal.learn_as-requires-clause-rule
learn_as-requires-clause-rule c = learns_as _ _ c.requires.taker.reads

pub returns-clause-first_parts : goal.returns-clause-first_parts
returns-clause-first_parts c = subst FirstPartsTaken (sym c.learn_as.ensures.queue.1) (first_parts _ _ c.learn_as.ensures.rule.1)

pub returns-clause-of_lanes : goal.returns-clause-of_lanes
returns-clause-of_lanes c = subst OfLanes (sym c.learn_as.ensures.queue.1) c.learn_as.ensures.rule.1.of_lanes
