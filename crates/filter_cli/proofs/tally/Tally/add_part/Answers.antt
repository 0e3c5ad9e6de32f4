use Rattle.std.proofs.Common.{refl, sym, ap, ◌∙◌}
use Rattle.outcome_fold.specs.Order.{in_byte_order}
use Rattle.outcome_fold.specs.EndedParts.{row_of_part}
use Rattle.outcome_fold.proofs.SetLemmas.{order_again}
use Rattle.filter_cli.proofs.tally.Tally.add_part.Goals as goal

pub returns : goal.returns
returns c = λ rows has.
    c.count.ensures rows (row_of_part c.args.part.now) refl (order_again c.args.part.now.started.tags ∙ ap in_byte_order (sym c.list.ensures)) has
