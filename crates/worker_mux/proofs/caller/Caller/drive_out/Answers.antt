use Rattle.std.proofs.Common.{refl, subst, rules}
use Rattle.worker_mux.specs.Works.{Drives}
use Rattle.worker_mux.proofs.Going.{drives_then}
use Rattle.worker_mux.proofs.Adding.{goes_stopped, goes_then}
use Rattle.worker_mux.proofs.caller.Caller.drive_out.Goals as goal

pub returns-in-Put-clause-number : goal.returns-in-Put-clause-number
returns-in-Put-clause-number g c = λ before drives. (subst (Drives g.C.Child.seen before) c.in-Put.is (c.loop.invariant.drives before drives)).number

pub returns-in-Put-clause-put : goal.returns-in-Put-clause-put
returns-in-Put-clause-put g c = λ before drives so. subst (Drives g.C.Child.seen before) c.in-Put.is (c.loop.invariant.drives before drives)

pub returns-in-GivenUp-clause-number : goal.returns-in-GivenUp-clause-number
returns-in-GivenUp-clause-number g c = λ before drives. subst (Drives g.C.Child.seen before) c.in-GivenUp.is (c.loop.invariant.drives before drives)

pub loop-preserved : goal.loop-preserved
loop-preserved g c = record {
  ready = c.take_one.ensures.ready;
  loan = search rules;
  goes = goes_then _ _ _ _ _ _ c.loop.invariant.goes c.take_one.ensures.goes;
  settled = search rules;
  pass = c.drive_work-outcome.ensures.ready;
  drives = λ before drives. drives_then g.C.Child.seen before c.in-Kept.work c.drive_work-outcome.result (subst (Drives g.C.Child.seen before) c.in-Kept.is (c.loop.invariant.drives before drives)) c.drive_work-outcome.ensures.drives;
}

pub returns-in-GivenUp-clause-goes : goal.returns-in-GivenUp-clause-goes
returns-in-GivenUp-clause-goes g c = goes_stopped _ _ _ _ _ c.loop.invariant.goes refl refl refl refl
