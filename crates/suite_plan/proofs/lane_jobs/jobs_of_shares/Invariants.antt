use Rattle.std.proofs.Common.{◌≡◌, Ok, take, length}
use Rattle.suite_plan.specs.LaneJobs.{jobs_from}
use Rattle.suite_plan.proofs.lane_jobs.jobs_of_shares.Given as goal

abbrev pub invariant-loop-lane : goal.invariant-loop-lane
invariant-loop-lane l = record {
  jobs : jobs_from l.conf 0 (take l.lane l.shares) ≡ Ok l.jobs.items;
  count : length l.jobs.items ≡ l.lane;
}
