use Rattle.worker_lane.proofs.LostLemmas.{in_turn, named}
use Rattle.worker_lane.proofs.laws.tests_that_are_lost.Goals as goal

pub returns-clause-in_turn : goal.returns-clause-in_turn
returns-clause-in_turn c = in_turn

pub returns-clause-named : goal.returns-clause-named
returns-clause-named c = named
