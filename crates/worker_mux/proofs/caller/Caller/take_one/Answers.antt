use Rattle.std.proofs.Common.{◌∙◌, ap, subst, sym}
use Rattle.worker_mux.specs.Passes.{lane_count, lots_taken, IsTakerFor}
use Rattle.worker_mux.proofs.Adding.{caller_one, goes_one}
use Rattle.worker_mux.proofs.caller.Caller.take_one.Goals as goal

pub returns-in-Some-clause-goes : goal.returns-in-Some-clause-goes
returns-in-Some-clause-goes g c =
    goes_one _ _ _ _ c.in-Some.field-0-0 c.in-Some.lot
    (ap lane_count c.record.ensures.taker ∙ c.take.ensures.lanes)
    c.record.ensures.begun
    (ap lots_taken c.record.ensures.taker ∙ c.in-Some.ensures.taken)
    c.record.ensures.going
    c.record.ensures.keeps
    c.record.ensures.added
    c.record.ensures.calls
    c.record.ensures.handed

pub returns-in-Some-clause-ready : goal.returns-in-Some-clause-ready
returns-in-Some-clause-ready g c =
    caller_one g.L.Listener.heard _ _ _ c.in-Some.field-0-0 c.in-Some.lot
    c.requires.ready
    (subst (IsTakerFor c.args.shared.now.belt) (sym c.record.ensures.taker) c.take.ensures.made_here)
    (ap lots_taken c.record.ensures.taker ∙ c.in-Some.ensures.taken)
    c.record.ensures.going
    c.record.ensures.well
    c.record.ensures.heard
