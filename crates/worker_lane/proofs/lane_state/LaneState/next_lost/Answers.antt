use Rattle.worker_lane.proofs.CourseLemmas.{gives_lost, loses_none}
use Rattle.worker_lane.proofs.lane_state.LaneState.next_lost.Goals as goal

pub returns-then-loses_none-clause-none : goal.returns-then-loses_none-clause-none
returns-then-loses_none-clause-none c =
    loses_none c.args.self.now.scribe c.args.self.now.ids c.args.self.now.stage c.args.self.now.failed c.args.ending c.requires (c.loses_none.ensures.yes c.if-loses_none.true)

pub returns-clause-gives : goal.returns-clause-gives
returns-clause-gives c =
    let closing = rw (← c.self.view_is) at c.requires in
    let taken = rw (c.in-Some.is) at c.in_ok-id.ensures.some in
    rw (← c.self.view_is) (gives_lost c.self.inside.scribe c.self.inside.sought c.pop.new.self c.self.inside.stage c.self.inside.failed c.args.ending c.in-Some.id c.in_ok-lost.field-0 closing taken (c.loses_none.ensures.no c.if-loses_none.false c.self.inside.scribe.lane) c.in_ok-lost.ensures)
