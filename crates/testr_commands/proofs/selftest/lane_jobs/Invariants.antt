use Rattle.std.proofs.Common.{◌≡◌, length}
use Rattle.testr_commands.proofs.selftest.lane_jobs.Given as goal

abbrev pub invariant-loop-lane : goal.invariant-loop-lane
invariant-loop-lane l = length l.jobs.items ≡ l.lane
