use Rattle.std.proofs.Common.{pos, refl, ap}
use Rattle.edge_io.specs.declared.child.Finish.TheVariants.{Exit}
use Rattle.drawn_lanes.proofs.RunLemmas.{plans_more, pieces_more, state_behind}
use Rattle.drawn_lanes.proofs.lanes.drawn_plans.Goals as goal

pub loop-lane-preserved : goal.loop-lane-preserved
loop-lane-preserved c =
    let before = c.loop-lane.invariant in
    record {
      plans = plans_more c.args.seed c.args.tests c.loop-lane.lane c.loop-lane.draws c.loop-lane.plans.items c.push.new.self.items _ c.in_ok-push.ensures.items before.plans before.state (ap (λ l. record { bytes = l; finish = Exit (pos 0) }) c.in_ok-output.ensures.output);
      pieces = pieces_more c.loop-lane.plans.items c.push.new.self.items _ c.in_ok-push.ensures.items before.pieces refl;
      state = state_behind c.args.seed c.args.tests c.loop-lane.lane c.loop-lane.draws c.lane_output.new.draws before.state c.in_ok-output.ensures.state;
    }
