use Rattle.event_sift.proofs.TagLemmas.{order_sorted}
use Rattle.event_sift.proofs.lent_tags.put_in_order.Goals as goal

pub returns : goal.returns
returns c = order_sorted _ _ _ c.sort_unstable.ensures.permutation c.sort_unstable.ensures.sorted c.dedup.ensures.filtered
