use Rattle.v1_bridge.proofs.WriteLemmas.{so_far_push}
use Rattle.v1_bridge.proofs.laws.texts_are_written_in_turn.Goals as goal

pub returns-clause-so_far : goal.returns-clause-so_far
returns-clause-so_far c = so_far_push
