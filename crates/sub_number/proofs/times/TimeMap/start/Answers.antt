use Rattle.sub_number.proofs.TimeLemmas.{inserted}
use Rattle.sub_number.proofs.times.TimeMap.start.Goals as goal

pub returns-clause-ok : goal.returns-clause-ok
returns-clause-ok c = rw (← c.self.view_is, ← c.in_ok-copy.ensures) (inserted _ _ _ _ c.in_ok-insert.ensures.updates.0)
