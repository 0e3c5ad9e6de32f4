use Rattle.std.proofs.Common.{◌≡◌, Some, sym, ◌∙◌}
use Rattle.std.specs.FinMap as map
use Rattle.std.proofs.lemmas.Result.{MatchResult-weaker}
use Rattle.outcome_fold.specs.Folded.{other_parts_in, extended_by}
use Rattle.outcome_fold.proofs.GroupLemmas.{found_some}
use Rattle.outcome_fold.proofs.OpenLemmas.{open_part, open_removed, closed_removed}
use Rattle.outcome_fold.proofs.HeldLemmas.{alone}
use Rattle.outcome_fold.proofs.TableLemmas.{removed}
use Rattle.outcome_fold.proofs.OrderLemmas.{tests_total, exact_tests}
use Rattle.outcome_fold.proofs.fold.Fold.finish.Goals as goal

pub unwrap-requires : goal.unwrap-requires
unwrap-requires c =
    found_some _ _ (sym (c.remove.ensures.value ∙ open_part (other_parts_in c.args.self.now) _ c.args.key.now c.args.said (sym c.if-branch.true ∙ c.in_ok-extend.ensures.was_open) c.in_ok-extend.ensures.ok))

pub returns-then-branch-clause-part : goal.returns-then-branch-clause-part
returns-then-branch-clause-part c =
    let part : Some c.unwrap.result ≡ Some (extended_by (map.get (other_parts_in c.args.self.now) c.args.key.now) c.args.said) =
    sym c.unwrap.ensures ∙ c.remove.ensures.value ∙ open_part (other_parts_in c.args.self.now) _ c.args.key.now c.args.said (sym c.if-branch.true ∙ c.in_ok-extend.ensures.was_open) c.in_ok-extend.ensures.ok in
    cc

pub returns-then-branch-clause-ok : goal.returns-then-branch-clause-ok
returns-then-branch-clause-ok c =
    alone _ _ (c.in_ok-extend.ensures.held ∙ c.requires) ∙ open_removed (other_parts_in c.args.self.now) (other_parts_in c.extend.new.self) _ c.args.key.now c.args.said (sym c.if-branch.true ∙ c.in_ok-extend.ensures.was_open) c.in_ok-extend.ensures.ok (removed tests_total exact_tests _ _ _ c.remove.ensures.updates.0)

pub returns-else-branch-clause-ok : goal.returns-else-branch-clause-ok
returns-else-branch-clause-ok c =
    let gone = alone _ _ (c.in_ok-extend.ensures.held ∙ c.requires) ∙ closed_removed (other_parts_in c.args.self.now) (other_parts_in c.extend.new.self) c.args.key.now c.args.said (sym c.if-branch.false ∙ c.in_ok-extend.ensures.was_open) c.in_ok-extend.ensures.ok in
    MatchResult-weaker c.begun.result c.begun.ensures (λ _ _. gone) (λ _ _. tt)
