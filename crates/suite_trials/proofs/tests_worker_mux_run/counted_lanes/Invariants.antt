use Rattle.std.proofs.Common.{◌≡◌, ◌≤◌, ◌-◌, map, length}
use Rattle.std.specs.List.{range_with_len}
use Rattle.worker_lane.specs.Lanes.{lane_number}
use Rattle.suite_trials.proofs.tests_worker_mux_run.counted_lanes.Given as goal

abbrev pub invariant-loop-alloc : goal.invariant-loop-alloc
invariant-loop-alloc l = record {
  numbers : map lane_number l.lanes.items ≡ range_with_len 0 (length l.lanes.items);
  few : length l.lanes.items ≤ 2;
}

abbrev pub decreases-loop-alloc : goal.decreases-loop-alloc
decreases-loop-alloc l = 2 - length l.lanes.items
