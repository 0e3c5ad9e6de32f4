use Rattle.std.proofs.Common.{sym, ◌∙◌}
use Rattle.std.specs.List.Sorted.{IsStrictlySortedBy}
use Rattle.std.proofs.lemmas.List.Filters.{dedup_is}
use Rattle.outcome_fold.specs.Order.{text_cmp}
use Rattle.outcome_fold.proofs.SetLemmas.{ordered_already, ordered_by_sort}
use Rattle.outcome_fold.proofs.text_set.in_order.Goals as goal

pub returns-then-are_in_order : goal.returns-then-are_in_order
returns-then-are_in_order c =
    let ordered : IsStrictlySortedBy text_cmp c.list.result.now = rw c.if-are_in_order.true at c.are_in_order.ensures in
    sym (ordered_already c.args.tags (rw (c.list.ensures) at ordered))

pub returns : goal.returns
returns c = c.from_list.ensures ∙ ordered_by_sort c.args.tags _ _ (rw c.into_list-list.ensures at c.sort_unstable.ensures.permutation) c.sort_unstable.ensures.sorted (dedup_is _ _ _ c.dedup.ensures.filtered)
