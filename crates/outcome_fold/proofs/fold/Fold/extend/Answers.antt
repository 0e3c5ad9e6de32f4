use Rattle.std.proofs.Common.{◌∙◌, ap, sym, refl, is_some}
use Rattle.std.specs.FinMap as map
use Rattle.std.proofs.lemmas.Result.{err_from_is_err_and}
use Rattle.outcome_fold.specs.Order.{test_cmp}
use Rattle.outcome_fold.specs.Folded.{other_parts_in}
use Rattle.outcome_fold.proofs.OpenLemmas.{kept_through, taken_through, closed_is, no_others}
use Rattle.outcome_fold.proofs.GroupLemmas.{found_some}
use Rattle.outcome_fold.proofs.TableLemmas.{lookup_in_map}
use Rattle.outcome_fold.proofs.OrderLemmas.{tests_total}
use Rattle.outcome_fold.proofs.fold.Fold.extend.Goals as goal

pub returns-in_err-take-in-Some-clause-err : goal.returns-in_err-take-in-Some-clause-err
returns-in_err-take-in-Some-clause-err c =
    let p = err_from_is_err_and c.from_residual.result c.from_residual.ensures.1 in
    rw p.1 (kept_through _ _ _ c.in-Some.started.now c.take.new.self ((c.get_mut.follows.holds c.take.new.self).3 (found_some _ _ c.in-Some.ensures.value)).0 c.in-Some.ensures.value c.in_err-take-in-Some.ensures.err.0)

pub returns-in_ok-take-in-Some-clause-was_open : goal.returns-in_ok-take-in-Some-clause-was_open
returns-in_ok-take-in-Some-clause-was_open c = ap is_some (c.in-Some.ensures.value ∙ lookup_in_map tests_total _ _)

pub returns-in_ok-take-in-Some-clause-ok : goal.returns-in_ok-take-in-Some-clause-ok
returns-in_ok-take-in-Some-clause-ok c =
    taken_through _ _ _ c.in-Some.started.now c.take.new.self _ ((c.get_mut.follows.holds c.take.new.self).3 (found_some _ _ c.in-Some.ensures.value)).0 c.in-Some.ensures.value c.in_ok-take-in-Some.ensures.ok

pub returns-in-None-clause-was_open : goal.returns-in-None-clause-was_open
returns-in-None-clause-was_open c = ap is_some (c.in-None.ensures.value ∙ lookup_in_map tests_total _ _)

pub returns-in-None-clause-ok : goal.returns-in-None-clause-ok
returns-in-None-clause-ok c =
    closed_is (other_parts_in c.args.self.now) _ c.args.key.now c.args.said.now (ap is_some (c.in-None.ensures.value ∙ lookup_in_map tests_total _ _)) (ap (λ m. map.from_entries {R = test_cmp} m.entries) c.get_mut.follows.holds-at-none)

pub returns-then-is_empty-clause-was_open : goal.returns-then-is_empty-clause-was_open
returns-then-is_empty-clause-was_open c = ap is_some (sym (no_others c.args.self.now.others.entries _ (c.is_empty.ensures.0 c.if-is_empty.true)))

pub returns-then-is_empty-clause-ok : goal.returns-then-is_empty-clause-ok
returns-then-is_empty-clause-ok c =
    closed_is (other_parts_in c.args.self.now) _ c.args.key.now c.args.said.now (ap is_some (sym (no_others c.args.self.now.others.entries _ (c.is_empty.ensures.0 c.if-is_empty.true)))) refl
