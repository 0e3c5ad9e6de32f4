use Rattle.std.proofs.Common.{◌∙◌}
use Rattle.worker_mux.proofs.Told.{settles_as, once_settled}
use Rattle.worker_mux.proofs.belt.Belt.absorb.Goals as goal

pub absorb-requires-clause-rule : goal.absorb-requires-clause-rule
absorb-requires-clause-rule c = settles_as _ _ _ _ _ c.requires.taker.reads c.requires.pass.lane

pub returns-clause-settled : goal.returns-clause-settled
returns-clause-settled c = c.absorb.ensures.rule ∙ once_settled _ _ _ c.requires.taker.reads c.requires.pass.lane
