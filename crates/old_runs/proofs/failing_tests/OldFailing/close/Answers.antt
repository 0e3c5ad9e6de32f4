use Rattle.std.proofs.Common.{refl}
use Rattle.old_runs.proofs.failing_tests.OldFailing.close.Goals as goal

pub returns-then-damaged-clause-none : goal.returns-then-damaged-clause-none
returns-then-damaged-clause-none c bytes h = (λ is. (c.in_ok-damaged.ensures.damaged bytes h.events h.fed).0 c.if-damaged.true, λ broken. refl)
