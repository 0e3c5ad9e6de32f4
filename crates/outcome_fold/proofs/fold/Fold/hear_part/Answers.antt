use Rattle.std.proofs.Common.{◌∙◌, ap}
use Rattle.outcome_fold.specs.Parts.{ended_by}
use Rattle.outcome_fold.proofs.HeldLemmas.{the_held}
use Rattle.outcome_fold.proofs.fold.Fold.hear_part.Goals as goal

pub returns-then-holds-clause-part : goal.returns-then-holds-clause-part
returns-then-holds-clause-part c = λ seen e s has.
    let held = the_held c.args.self.now.held e (c.holds.ensures e s c.if-holds.true) in
    c.hear_held.ensures.part seen e held.0 s has held.1 held.2 (c.ended_by.ensures ∙ ap ended_by (c.status.ensures e s))

pub returns-then-holds-clause-ok : goal.returns-then-holds-clause-ok
returns-then-holds-clause-ok c = λ seen e s has.
    let held = the_held c.args.self.now.held e (c.holds.ensures e s c.if-holds.true) in
    c.hear_held.ensures.ok seen e held.0 s has held.1 held.2 (c.ended_by.ensures ∙ ap ended_by (c.status.ensures e s))
