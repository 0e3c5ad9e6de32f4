use Rattle.std.proofs.Common.{subst}
use Rattle.std.proofs.lemmas.List.{take_all}
use Rattle.std.specs.List.{AllByRecursion}
use Rattle.worker_lane.specs.Lost.{AreShortIds}
use Rattle.suite_run.proofs.StartLemmas.{each_more}
use Rattle.suite_run.proofs.lane_starter.are_all_texts.Goals as goal

pub loop-ids-preserved : goal.loop-ids-preserved
loop-ids-preserved c =
    each_more AreShortIds c.args.asked.now c.loop-ids.ids-index c.ids-item.result c.loop-ids-test.true c.ids-item.is (subst AreShortIds c.list.ensures c.are_texts.ensures) c.loop-ids.invariant

pub returns : goal.returns
returns c = subst (AllByRecursion AreShortIds) (take_all c.loop-ids.ids-index c.args.asked.now c.loop-ids-test.false) c.loop-ids.invariant
