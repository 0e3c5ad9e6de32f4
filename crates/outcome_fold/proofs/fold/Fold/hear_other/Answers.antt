use Rattle.std.proofs.Common.{sym, ◌∙◌, ap}
use Rattle.outcome_fold.specs.Parts.{ended_by}
use Rattle.outcome_fold.proofs.AddLemmas.{stays_open}
use Rattle.outcome_fold.proofs.EndedLemmas.{no_part}
use Rattle.outcome_fold.proofs.fold.Fold.hear_other.Goals as goal

pub returns-in_default-clause-part : goal.returns-in_default-clause-part
returns-in_default-clause-part c = λ seen e s has. no_part seen e (sym c.in_default.is ∙ c.in_ok-key.ensures e s)

pub returns-in_default-clause-ok : goal.returns-in_default-clause-ok
returns-in_default-clause-ok c = λ seen e s has. stays_open seen e _ has (sym c.in_default.is ∙ c.in_ok-key.ensures e s)

pub returns-clause-part : goal.returns-clause-part
returns-clause-part c = λ seen e s has. c.tell.ensures.part seen e has (record { test_is = sym c.in-Some.is ∙ c.in_ok-key.ensures e s; how_is = c.ended_by.ensures ∙ ap ended_by (c.status.ensures e s); says = c.in_ok-said.ensures e s })

pub returns-clause-ok : goal.returns-clause-ok
returns-clause-ok c = λ seen e s has. c.tell.ensures.ok seen e has (record { test_is = sym c.in-Some.is ∙ c.in_ok-key.ensures e s; how_is = c.ended_by.ensures ∙ ap ended_by (c.status.ensures e s); says = c.in_ok-said.ensures e s })
