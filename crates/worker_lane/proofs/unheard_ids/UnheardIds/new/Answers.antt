use Rattle.std.proofs.Common.{◌++◌, ◌∙◌, ap}
use Rattle.outcome_fold.specs.Order.{in_byte_order}
use Rattle.worker_lane.proofs.SoughtLemmas.{named_are_short, all_sought}
use Rattle.worker_lane.proofs.unheard_ids.UnheardIds.new.Goals as goal

pub invariant_of-result : goal.invariant_of-result
invariant_of-result c = (named_are_short c.in_ok-ids.ids.items c.args.ids.now c.in_ok-ids.ensures, tt)

pub returns : goal.returns
returns c =
    all_sought c.in_ok-ids.ids.items _ (c.in_ok-insert_all.ensures ∙ ap (λ l. in_byte_order (l ++ c.deref.result.now)) c.new-unheard.ensures ∙ ap in_byte_order c.deref.ensures.value)
    ∙ c.in_ok-ids.ensures
