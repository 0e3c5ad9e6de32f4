use Rattle.std.proofs.Common.{◌∙◌, sym, ap}
use Rattle.outcome_fold.specs.EndedParts.{text_told}
use Rattle.outcome_fold.proofs.EndedLemmas.{row_is}
use Rattle.outcome_fold.proofs.fold.Fold.hear.Goals as goal

pub returns-clause-row : goal.returns-clause-row
returns-clause-row c = λ seen e s has. row_is seen e _ _ (c.in_ok-part.ensures.part seen e s has) (c.row_told.ensures (c.in_ok-text.ensures seen e s has ∙ sym (ap text_told (c.in_ok-part.ensures.part seen e s has))))
