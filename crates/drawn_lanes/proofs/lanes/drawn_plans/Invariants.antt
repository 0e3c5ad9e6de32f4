use Rattle.std.proofs.Common.{◌≡◌, ◌*◌, map, All}
use Rattle.std.specs.List.{range_with_len}
use Rattle.edge_io.specs.Planned.{planned_output}
use Rattle.drawn_lanes.specs.Draws.{seed_state, state_after}
use Rattle.drawn_lanes.specs.Outputs.{drawn_output}
use Rattle.drawn_lanes.proofs.lanes.drawn_plans.Given as goal

abbrev pub invariant-loop-lane : goal.invariant-loop-lane
invariant-loop-lane l = record {
  plans : map planned_output l.plans.items ≡ map (drawn_output l.seed l.tests) (range_with_len 0 l.lane);
  pieces : All (λ plan. plan.piece ≡ 65536) l.plans.items;
  state : l.draws ≡ state_after (l.lane * l.tests) (seed_state l.seed);
}
