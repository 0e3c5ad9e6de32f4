use Rattle.std.proofs.Common.{◌<◌, length, arith}
use Rattle.std.proofs.lemmas.Grind.{common_steps}
use Rattle.suite_plan.proofs.JobLemmas.{one_more_job}
use Rattle.suite_plan.proofs.lane_jobs.jobs_of_shares.Goals as goal

pub loop-lane-preserved : goal.loop-lane-preserved
loop-lane-preserved c =
    let below : c.loop-lane.lane < length c.args.shares.now = omega arith in
    record {
      jobs =
          rw c.in_ok-push_job.ensures
          (one_more_job c.args.conf.now c.args.shares.now c.loop-lane.lane c.index-shares-lane.result c.loop-lane.jobs.items below c.index-shares-lane.is c.loop-lane.invariant.jobs
          c.in_ok-run_job.field-0 c.in_ok-run_job.ensures.job);
      count = rw c.in_ok-push_job.ensures (grind (arith, common_steps));
    }
