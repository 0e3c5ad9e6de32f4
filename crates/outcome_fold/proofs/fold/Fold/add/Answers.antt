use Rattle.std.proofs.Common.{◌∙◌, sym, ap}
use Rattle.outcome_fold.specs.EndedParts.{text_told}
use Rattle.outcome_fold.proofs.EndedLemmas.{row_is}
use Rattle.outcome_fold.proofs.fold.Fold.add.Goals as goal

pub returns-clause-row : goal.returns-clause-row
returns-clause-row c seen has = row_is seen c.args.event.now _ _ (c.in_ok-part.ensures.part seen has) (c.row_told.ensures (c.in_ok-text.ensures seen has ∙ sym (ap text_told (c.in_ok-part.ensures.part seen has))))
