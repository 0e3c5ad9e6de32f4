use Rattle.std.proofs.Common.{◌≡◌, ◌∙◌, sym, ap, [], ◌++◌}
use Rattle.std.specs.List.{flat_map}
use Rattle.std.proofs.lemmas.Map.Iter.{rest_all}
use Rattle.std.proofs.lemmas.List.{append-nil}
use Rattle.outcome_fold.proofs.GroupLemmas.{joined_entries}
use Rattle.outcome_fold.proofs.rows.Groups.joined.Goals as goal

pub returns : goal.returns
returns c =
    let none : c.loop-group.group-iterator ≡ [] = rest_all (λ x. x) _ _ _ c.in-None.is c.next.ensures.steps in
    let all : c.loop-group.rows.items ≡ flat_map (λ e. e.1) c.into_iter-group-iterator.result = sym (append-nil c.loop-group.rows.items) ∙ ap (λ rest. c.loop-group.rows.items ++ flat_map (λ e. e.1) rest) (sym none) ∙ c.loop-group.invariant in
    let gives = c.into_iter-group-iterator.ensures.into_iter_gives in
    all ∙ ap (flat_map (λ e. e.1)) gives.0 ∙ joined_entries _ gives.5
