use Rattle.worker_lane.proofs.CourseLemmas.{feed_left, at_reading}
use Rattle.worker_lane.proofs.lane_state.LaneState.feed.Goals as goal

pub returns-clause-left : goal.returns-clause-left
returns-clause-left c =
    let reading = rw (← c.self.view_is) at c.requires.reading in
    rw (← c.self.view_is) (feed_left c.self.inside.scribe c.feed.new.self c.args.piece.now c.self.inside.sought c.self.inside.stage c.self.inside.failed reading (at_reading c.self.inside.stage _ c.self.inside.failed reading c.self.invariant.1) c.feed.ensures.ok)
