use Rattle.std.proofs.Common.{◌≡◌}
use Rattle.std.proofs.lemmas.Result.{IfOk-weaker}
use Rattle.suite_plan.specs.Choosing.{with_further, wanted_ids}
use Rattle.suite_plan.proofs.ChoosingLemmas.{wanted_more}
use Rattle.suite_plan.proofs.choice.wanted.Goals as goal

pub returns-in-Some : goal.returns-in-Some
returns-in-Some c =
    IfOk-weaker c.missed-in-Some.result _ (λ wanted. wanted ≡ wanted_ids (with_further c.args.picks.now c.args.further.now) c.args.ids)
    (λ wanted is. wanted_more c.args.picks.now c.args.further.now _ _ _ _ _ c.in-Some.is c.in_ok-ids.ensures c.in_ok-ids-2.ensures is) c.missed-in-Some.ensures
