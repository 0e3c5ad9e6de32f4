use Rattle.sub_number.proofs.TimeLemmas.{inserted, found_some}
use Rattle.sub_number.proofs.times.TimeMap.put.Goals as goal

pub returns-in-Some-clause-ok : goal.returns-in-Some-clause-ok
returns-in-Some-clause-ok c = rw (← c.self.view_is) (inserted _ _ c.args.id.now c.args.nanos ((c.get_mut.follows.holds c.args.nanos).3 (found_some _ _ c.in-Some.ensures.value)).0)
