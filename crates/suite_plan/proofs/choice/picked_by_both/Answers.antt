use Rattle.std.proofs.Common.{◌≡◌, ◌++◌, ◌∙◌}
use Rattle.std.proofs.lemmas.Result.{IfOk-weaker}
use Rattle.partition_times.specs.Patterns.{picked_ids}
use Rattle.suite_plan.proofs.ChoosingLemmas.{picked_without, found_picked}
use Rattle.suite_plan.proofs.choice.picked_by_both.Goals as goal

pub returns-then-is_empty : goal.returns-then-is_empty
returns-then-is_empty c =
    IfOk-weaker c.picked_by.result (λ picked. picked ≡ picked_ids c.args.filters.now c.args.ids) (λ picked. picked ≡ picked_ids (c.args.filters.now ++ c.args.further.now) c.args.ids)
    (λ picked is. is ∙ picked_without c.args.filters.now c.args.further.now c.args.ids c.if-is_empty.ensures) c.picked_by.ensures

pub returns : goal.returns
returns c =
    IfOk-weaker c.found_in.result _ (λ picked. picked ≡ picked_ids (c.args.filters.now ++ c.args.further.now) c.args.ids)
    (λ picked is. found_picked c.args.filters.now c.args.further.now _ _ c.args.ids _ picked c.in_ok-first.ensures c.in_ok-second.ensures c.into_list.ensures c.if-is_empty.ensures is) c.found_in.ensures
