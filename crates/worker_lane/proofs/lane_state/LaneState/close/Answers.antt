use Rattle.std.proofs.Common.{◌≡◌, ◌∙◌, false, refl, rules}
use Rattle.worker_lane.specs.declared.lane_stage.Stage.TheVariants.{Closing}
use Rattle.worker_lane.proofs.CourseLemmas.{close_left, at_reading}
use Rattle.worker_lane.proofs.lane_state.LaneState.close.Goals as goal

pub finish-requires : goal.finish-requires
finish-requires c =
    let reading = rw (← c.self.view_is) at c.requires.reading in
    at_reading c.self.inside.stage _ c.self.inside.failed reading c.self.invariant.1

pub returns-clause-left : goal.returns-clause-left
returns-clause-left c =
    let reading = rw (← c.self.view_is) at c.requires.reading in
    let going_on : c.self.inside.scribe.held.ended ≡ false = at_reading c.self.inside.stage _ c.self.inside.failed reading c.self.invariant.1 in
    let scribe : c.if-matches.self-inside.scribe ≡ c.finish.new.self = search rules in
    let sought : c.if-matches.self-inside.sought ≡ c.self.inside.sought = search rules in
    rw (← c.self.view_is, sought) (close_left c.self.inside.scribe c.if-matches.self-inside.scribe c.self.inside.sought c.self.inside.stage (Closing c.args.ending) c.self.inside.failed c.if-matches.self-inside.failed c.args.ending reading refl going_on (scribe ∙ c.finish.ensures.ended))
