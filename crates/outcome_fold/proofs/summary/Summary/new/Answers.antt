use Rattle.std.proofs.Common.{refl, sym, ◌∙◌}
use Rattle.outcome_fold.proofs.SetLemmas.{order_of_none}
use Rattle.outcome_fold.proofs.summary.Summary.new.Goals as goal

pub returns : goal.returns
returns c = λ filter_tags. record { failing = c.new.ensures.items; counts = refl; times = c.new-2.ensures; untimed = c.new-3.ensures ∙ sym order_of_none }
