use Rattle.std.proofs.Common.{◌≡◌, ◌∙◌, sym, ap, [], ◌++◌, map, append-nil}
use Rattle.std.specs.FinMap as fin
use Rattle.std.proofs.lemmas.Map.Iter.{rest_all}
use Rattle.outcome_fold.proofs.OrderLemmas.{routes_total}
use Rattle.outcome_fold.proofs.TableLemmas.{entries_in_order}
use Rattle.filter_cli.proofs.JunitCaseLemmas.{values_are}
use Rattle.filter_cli.proofs.junit_cases.JunitCases.into_routes.Goals as goal

pub returns : goal.returns
returns c =
    let none : c.loop-cases.cases-iterator ≡ [] = rest_all (λ x. x) _ _ _ c.in-None.is c.next.ensures.steps in
    let all : c.loop-cases.routes.items ≡ map (λ e. e.1) c.into_iter-cases-iterator.result = sym (append-nil c.loop-cases.routes.items) ∙ ap (λ rest. c.loop-cases.routes.items ++ map (λ e. e.1) rest) (sym none) ∙ c.loop-cases.invariant in
    let gives = c.into_iter-cases-iterator.ensures.into_iter_gives in
    all ∙ ap (map (λ e. e.1)) gives.0 ∙ values_are _ (entries_in_order routes_total _ gives.5) ∙ ap fin.values c.self.view_is
