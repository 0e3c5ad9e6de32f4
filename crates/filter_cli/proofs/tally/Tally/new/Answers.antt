use Rattle.std.proofs.Common.{sym, ◌∙◌}
use Rattle.outcome_fold.proofs.SetLemmas.{order_of_none}
use Rattle.filter_cli.proofs.tally.Tally.new.Goals as goal

pub returns : goal.returns
returns c = record { ended = c.new.ensures.items; tags = c.new-2.ensures ∙ sym order_of_none }
