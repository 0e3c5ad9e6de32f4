use Rattle.std.proofs.Common.{◌≡◌, ◌-◌, ◌↔◌}
use Rattle.worker_lane.specs.Lanes.{rest, lane_held, IsPast, KeepsLane}
use Rattle.worker_lane.proofs.lane.Lane.step.Given as goal

-- what is left is as it was
abbrev pub invariant-loop-lot : goal.invariant-loop-lot
invariant-loop-lot g l = record {
  keeps : KeepsLane g.C.Child.seen l.fn.self l.self;
  same : rest g.C.Child.seen l.fn.self ≡ rest g.C.Child.seen l.self;
  past : IsPast l.self ↔ IsPast l.fn.self;
}

abbrev pub decreases-loop-lot : goal.decreases-loop-lot
decreases-loop-lot g l = 4259838 - lane_held l.self
