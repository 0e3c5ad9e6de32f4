use Rattle.std.proofs.Common.{sym, ◌∙◌}
use Rattle.outcome_fold.proofs.AddLemmas.{stays_open}
use Rattle.outcome_fold.proofs.fold.Fold.add_part.Goals as goal

pub returns-in_default-clause-ok : goal.returns-in_default-clause-ok
returns-in_default-clause-ok c seen has = stays_open seen _ _ has (sym c.in_default.is ∙ c.in_ok-key.ensures)
