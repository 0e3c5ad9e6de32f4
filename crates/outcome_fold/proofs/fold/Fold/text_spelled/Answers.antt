use Rattle.std.proofs.Common.{◌∙◌, sym, ap}
use Rattle.outcome_fold.specs.Folded.{gives_failure}
use Rattle.outcome_fold.proofs.EndedLemmas.{gives_no_text}
use Rattle.outcome_fold.proofs.fold.Fold.text_spelled.Goals as goal

pub returns-then-gives_failure : goal.returns-then-gives_failure
returns-then-gives_failure c = λ seen e s has.
    c.failure_spelled.ensures seen e s (sym (c.gives_failure.ensures ∙ ap gives_failure (c.status.ensures e s)) ∙ c.if-gives_failure.true) has

pub returns : goal.returns
returns c = λ seen e s has.
    gives_no_text seen e _ c.no_text.ensures (sym (c.gives_failure.ensures ∙ ap gives_failure (c.status.ensures e s)) ∙ c.if-gives_failure.false)
