use Rattle.std.proofs.Common.{take}
use Rattle.suite_run.specs.NoneLost.{AreAllShort}
use Rattle.command_steps.proofs.work_plan.name_each.Given as goal

abbrev pub invariant-loop-ids : goal.invariant-loop-ids
invariant-loop-ids l = AreAllShort (take l.ids-index l.shares)
