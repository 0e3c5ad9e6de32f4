use Rattle.std.proofs.Common.{◌∙◌, sym, ap}
use Rattle.std.proofs.lemmas.List.{append-nil}
use Rattle.outcome_fold.specs.Order.{in_byte_order}
use Rattle.outcome_fold.proofs.SetLemmas.{one_inserted}
use Rattle.outcome_fold.proofs.text_set.TextSet.insert_all.Goals as goal

pub loop-text-init : goal.loop-text-init
loop-text-init c = c.are_in_order.ensures ∙ ap in_byte_order (sym (append-nil _))

pub loop-text-preserved : goal.loop-text-preserved
loop-text-preserved c = c.in_ok-insert.ensures.ok ∙ one_inserted _ _ _ _ _ c.loop-text.invariant c.loop-text-test.true c.text-item.is
