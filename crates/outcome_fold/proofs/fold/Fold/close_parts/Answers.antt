use Rattle.std.proofs.Common.{◌≡◌, ◌∙◌, sym, ap, [], ◌++◌, map}
use Rattle.std.proofs.lemmas.Map.Iter.{rest_all}
use Rattle.std.proofs.lemmas.List.{append-nil}
use Rattle.outcome_fold.proofs.CloseLemmas.{part_of_entry, parts_at_end}
use Rattle.outcome_fold.proofs.fold.Fold.close_parts.Goals as goal

pub returns : goal.returns
returns c seen has =
    let none : c.loop-key.key-iterator ≡ [] = rest_all (λ x. x) _ _ _ c.in-None.is c.next.ensures.steps in
    let all : c.loop-key.parts.items ≡ map part_of_entry c.into_iter-key-iterator.result = sym (append-nil c.loop-key.parts.items) ∙ ap (λ rest. c.loop-key.parts.items ++ map part_of_entry rest) (sym none) ∙ c.loop-key.invariant in
    let gives = c.into_iter-key-iterator.ensures.into_iter_gives in
    all ∙ ap (map part_of_entry) gives.0 ∙ parts_at_end seen _ gives.5 (c.in_ok-put_down.ensures.ok.1 ∙ has)
