use Rattle.std.proofs.Common.{rules}
use Rattle.std.specs.Ordering.{is_lt}
use Rattle.std.proofs.lemmas.List.Sorted.{answers_always}
use Rattle.outcome_fold.specs.Order.{text_cmp}
use Rattle.outcome_fold.proofs.OrderLemmas.{ordered_answer}
use Rattle.outcome_fold.proofs.text_set.are_in_order.Goals as goal

pub returns : goal.returns
returns c = ordered_answer _ _ (c.is_sorted_by.ensures.cases (λ s t. is_lt (text_cmp s t)) (answers_always _ _ _ (λ f a r g called. search rules)))
