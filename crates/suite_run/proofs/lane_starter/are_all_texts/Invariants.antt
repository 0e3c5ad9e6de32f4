use Rattle.std.proofs.Common.{take}
use Rattle.std.specs.List.{AllByRecursion}
use Rattle.worker_lane.specs.Lost.{AreShortIds}
use Rattle.suite_run.proofs.lane_starter.are_all_texts.Given as goal

abbrev pub invariant-loop-ids : goal.invariant-loop-ids
invariant-loop-ids l = AllByRecursion AreShortIds (take l.ids-index l.asked)
