use Rattle.std.proofs.Common.{◌∙◌, ap}
use Rattle.std.specs.Map.Iter.{deref}
use Rattle.std.proofs.lemmas.Map.Iter.{iter_end}
use Rattle.outcome_fold.specs.Order.{without}
use Rattle.outcome_fold.proofs.SetLemmas.{without_none, one_removed}
use Rattle.outcome_fold.proofs.text_set.TextSet.remove_set.Goals as goal

pub loop-text-init : goal.loop-text-init
loop-text-init c = without_none _

pub loop-text-preserved : goal.loop-text-preserved
loop-text-preserved c = one_removed deref _ _ _ c.loop-text.yielded c.in-Some.text c.remove.ensures c.loop-text.invariant

pub returns : goal.returns
returns c =
    let all = (iter_end deref c.texts.inside.texts.keys _ _ _ _ _ c.into_iter-text-iterator.ensures.into_iter_gives.0 c.loop-text.yielded_by c.in-None.is c.next.ensures.steps).0 in
    c.loop-text.invariant ∙ ap (without c.args.self.now) (all ∙ c.texts.view_is)
