use Rattle.std.proofs.Common.{◌∙◌, sym, ap}
use Rattle.std.proofs.lemmas.List.{append-nil}
use Rattle.outcome_fold.specs.Order.{in_byte_order}
use Rattle.outcome_fold.proofs.SetLemmas.{one_put}
use Rattle.outcome_fold.proofs.text_set.TextSet.put_all.Goals as goal

pub loop-id-init : goal.loop-id-init
loop-id-init c = c.are_in_order.ensures ∙ ap in_byte_order (sym (append-nil _))

pub loop-id-preserved : goal.loop-id-preserved
loop-id-preserved c = one_put _ _ _ _ _ c.in_ok-put.ensures.ok c.loop-id.invariant
