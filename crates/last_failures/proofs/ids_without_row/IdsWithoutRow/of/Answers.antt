use Rattle.std.proofs.Common.{◌∙◌, sym}
use Rattle.outcome_fold.proofs.SetLemmas.{order_of_none}
use Rattle.last_failures.proofs.FindLemmas.{one_copied}
use Rattle.last_failures.proofs.ids_without_row.IdsWithoutRow.of.Goals as goal

pub loop-id-init : goal.loop-id-init
loop-id-init c = c.none-missing.ensures ∙ sym order_of_none

pub loop-id-preserved : goal.loop-id-preserved
loop-id-preserved c = c.in_ok-put.ensures ∙ one_copied c.args.ids.now c.list-id-items.result.now c.loop-id.missing c.loop-id.id-index _ _ c.list-id-items.ensures c.loop-id.invariant c.loop-id-test.true c.id-item.is c.in_ok-copy.ensures
