use Rattle.std.proofs.Common.{◌∙◌, ◌∷◌, [], take, sym, ap}
use Rattle.outcome_fold.specs.Order.{without}
use Rattle.outcome_fold.proofs.SetLemmas.{take_one_more, without_none, without_more}
use Rattle.outcome_fold.proofs.text_set.TextSet.remove_all.Goals as goal

pub loop-text-init : goal.loop-text-init
loop-text-init c = without_none _

pub loop-text-preserved : goal.loop-text-preserved
loop-text-preserved c =
    c.remove.ensures ∙ ap (λ texts. without texts (c.text-item.result ∷ [])) c.loop-text.invariant ∙ without_more c.args.self.now (take c.loop-text.text-index c.args.texts.now) c.text-item.result
    ∙ ap (without c.args.self.now) (sym (take_one_more _ _ c.text-item.result c.loop-text-test.true c.text-item.is))
