use Rattle.std.proofs.Common.{take}
use Rattle.worker_lane.specs.Lost.{AreShortIds}
use Rattle.suite_run.proofs.lane_starter.are_texts.Given as goal

abbrev pub invariant-loop-id : goal.invariant-loop-id
invariant-loop-id l = AreShortIds (take l.id-index l.ids)
