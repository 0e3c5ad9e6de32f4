use Rattle.std.proofs.Common.{◌≡◌, ◌∙◌, true, sym, ap}
use Rattle.outcome_fold.specs.Order.{among}
use Rattle.outcome_fold.proofs.SetLemmas.{set_has, set_inserted}
use Rattle.outcome_fold.proofs.text_set.TextSet.insert.Goals as goal

pub returns-then-contains-clause-ok : goal.returns-then-contains-clause-ok
returns-then-contains-clause-ok c =
    let is : true ≡ among c.args.self.now c.args.text.now = rw c.if-contains.true at c.contains.ensures in
    rw (← c.self.view_is) (set_has c.self.inside.texts.keys c.args.text.now c.self.invariant (is ∙ ap (λ texts. among texts c.args.text.now) (sym c.self.view_is)))

pub returns-clause-ok : goal.returns-clause-ok
returns-clause-ok c = rw (← c.self.view_is, ← c.in_ok-copy.ensures) (set_inserted _ _ _ c.in_ok-insert.ensures.ordered c.in_ok-insert.ensures.updates.0)
