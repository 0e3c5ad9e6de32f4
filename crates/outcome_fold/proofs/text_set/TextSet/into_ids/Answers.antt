use Rattle.std.proofs.Common.{◌≡◌, ◌∙◌, sym, ap, [], ◌++◌}
use Rattle.std.proofs.lemmas.Map.Iter.{rest_all}
use Rattle.std.proofs.lemmas.List.{append-nil}
use Rattle.outcome_fold.proofs.text_set.TextSet.into_ids.Goals as goal

pub returns : goal.returns
returns c =
    let none : c.loop-text.text-iterator ≡ [] = rest_all (λ x. x) _ _ _ c.in-None.is c.next.ensures.steps in
    let all : c.loop-text.ids ≡ c.into_iter-text-iterator.result = sym (append-nil c.loop-text.ids) ∙ ap (λ rest. c.loop-text.ids ++ rest) (sym none) ∙ c.loop-text.invariant in
    rw (← c.self.view_is) (all ∙ c.into_iter-text-iterator.ensures.into_iter_gives.0)
