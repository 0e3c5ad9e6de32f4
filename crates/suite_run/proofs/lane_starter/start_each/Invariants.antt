use Rattle.std.proofs.Common.{◌≡◌, map, length, take}
use Rattle.std.specs.List.{range_with_len}
use Rattle.edge_io.specs.Steps.{Goes}
use Rattle.suite_run.specs.Starting.{HasStarted}
use Rattle.suite_run.proofs.lane_starter.start_each.Given as goal
use Rattle.worker_lane.specs.Lanes.{rest, lane_number}

-- the jobs so far were started
abbrev pub invariant-loop-job : goal.invariant-loop-job
invariant-loop-job g l = record {
  numbers : map lane_number l.lanes.items ≡ range_with_len 0 (length l.lanes.items);
  count : length l.lanes.items ≡ l.job-index;
  started : Goes (g.S.Spawner.seen l.initial.spawner).told (g.S.Spawner.seen l.spawner).told (HasStarted (take l.job-index l.jobs) l.asked (map (rest g.S.Child.Child.seen) l.lanes.items));
  sum : (g.S.Spawner.seen l.spawner).faults ≡ (g.S.Spawner.seen l.initial.spawner).faults;
}
