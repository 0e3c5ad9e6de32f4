use Rattle.std.proofs.Common.{take}
use Rattle.worker_lane.specs.Sought.{AreShort}
use Rattle.command_steps.proofs.work_plan.are_short.Given as goal

abbrev pub invariant-loop-id : goal.invariant-loop-id
invariant-loop-id l = AreShort (take l.id-index l.ids)
