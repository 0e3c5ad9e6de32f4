use Rattle.std.proofs.Common.{sym}
use Rattle.outcome_fold.proofs.SetLemmas.{ordered_already}
use Rattle.outcome_fold.proofs.text_set.TextSet.are_in_order.Goals as goal

pub returns : goal.returns
returns c = rw (← c.self.view_is) (sym (ordered_already c.self.inside.texts.keys c.self.invariant))
