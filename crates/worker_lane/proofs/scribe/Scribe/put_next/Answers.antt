use Rattle.std.proofs.Common.{refl}
use Rattle.worker_lane.proofs.WaitingLemmas.{not_nothing, never_none}
use Rattle.worker_lane.proofs.RecordingLemmas.{first_if_given}
use Rattle.worker_lane.proofs.scribe.Scribe.put_next.Goals as goal

pub returns-else-is_nothing-clause-some : goal.returns-else-is_nothing-clause-some
returns-else-is_nothing-clause-some c = rw (← c.self.view_is) (first_if_given c.put_first.result _ _ _ _ refl refl refl refl c.put_first.ensures.given)

pub returns-else-is_nothing-clause-none : goal.returns-else-is_nothing-clause-none
returns-else-is_nothing-clause-none c =
    never_none _ c.put_first.result _ (λ none. not_nothing c.self.inside.lane c.self.inside.waiting c.is_nothing.result c.self.invariant.1 c.is_nothing.ensures c.if-is_nothing.false none.0) c.put_first.ensures.none
