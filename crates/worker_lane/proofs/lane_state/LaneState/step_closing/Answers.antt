use Rattle.std.proofs.Common.{[], ◌∙◌, ap, sym}
use Rattle.worker_lane.specs.Rest.{Coursing, events_left, lots}
use Rattle.worker_lane.proofs.lane_state.LaneState.step_closing.Goals as goal

pub returns-in-Some-2-clause-gives : goal.returns-in-Some-2-clause-gives
returns-in-Some-2-clause-gives c = λ output other.
    let same = rw (c.in_default.is) at c.in_ok-packet.ensures.same in
    let heard = rw (c.in_default.is) at c.in_ok-packet.ensures.none in
    let gives = rw (c.in-Some-2.is) at c.in_ok-packet-2.ensures.gives in
    ap (λ (course : Coursing). lots course output) (sym same)
    ∙ gives.left (ap (λ (course : Coursing). events_left course.scribe []) same ∙ heard.closing c.args.ending c.requires) output other
