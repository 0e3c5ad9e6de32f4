use Rattle.std.proofs.Common.{◌≡◌, ◌∙◌, ap, arith}
use Rattle.std.proofs.lemmas.Grind.{common_steps}
use Rattle.std.proofs.lemmas.Result.{IfOk-weaker}
use Rattle.suite_plan.specs.Choosing.{ids_in_both}
use Rattle.suite_plan.proofs.ChoosingLemmas.{both_by_set}
use Rattle.suite_plan.proofs.choice.ids_in_both.Goals as goal

pub returns : goal.returns
returns c =
    let ids = c.args.ids in
    let others = c.args.others in
    let known = c.put_all.new.self in
    let moved = c.into_list.result.items in
    IfOk-weaker c.those_in.result (λ both. both ≡ ids_in_both moved known) (λ both. both ≡ ids_in_both ids others)
    (λ both is. is ∙ ap (λ l. ids_in_both l known) c.into_list.ensures ∙ both_by_set ids others known (grind (arith, common_steps))) c.those_in.ensures
