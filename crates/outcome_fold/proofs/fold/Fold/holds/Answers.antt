use Rattle.std.proofs.Common.{◌≡◌, sym, Some, subst}
use Rattle.std.specs.Prelude.{IsSomeAnd}
use Rattle.outcome_fold.specs.Parts as parts
use Rattle.outcome_fold.specs.declared.fold.Held.{Held}
use Rattle.outcome_fold.proofs.SaidLemmas.{test_said}
use Rattle.outcome_fold.proofs.fold.Fold.holds.Goals as goal

pub returns-then-has_id : goal.returns-then-has_id
returns-then-has_id c = λ e s yes.
    subst (λ o. IsSomeAnd o (λ (held : Held). parts.test_of e ≡ Some held.key)) (sym c.in-Some.is)
    (sym (test_said e c.in-Some.held.key.route c.in-Some.held.key.id (sym ((c.has_id.ensures e s).0 c.if-has_id.true)) (sym ((c.has_route.ensures e s).0 yes))))
