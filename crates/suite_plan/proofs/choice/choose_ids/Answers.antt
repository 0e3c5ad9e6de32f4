use Rattle.std.proofs.Common.{◌≡◌, ◌∙◌, sym}
use Rattle.std.proofs.lemmas.Result.{IfOk-weaker}
use Rattle.suite_plan.specs.Choosing.{with_further, wanted_ids, chosen_of}
use Rattle.suite_plan.proofs.ChoosingLemmas.{chosen_wanted}
use Rattle.suite_plan.proofs.choice.choose_ids.Goals as goal

pub returns : goal.returns
returns c =
    let picks = with_further c.args.picks.now c.args.further.now in
    let ids = c.args.ids in
    IfOk-weaker c.wanted.result (λ wanted. wanted ≡ wanted_ids picks ids) (λ chosen. chosen ≡ chosen_of picks ids)
    (λ wanted is. is ∙ sym (chosen_wanted picks ids c.requires.distinct)) c.wanted.ensures
