use Rattle.std.proofs.Common.{ap, ◌∙◌, map, rules}
use denote.Ref.{Bor}
use Rattle.std.specs.Ordering.{is_lt}
use Rattle.std.proofs.lemmas.List.Sorted.{ranks_by, answers_always}
use Rattle.outcome_fold.specs.declared.row.Row.{Row}
use Rattle.sub_text.specs.Texts.{timed_test, slow_cmp, slowest_first}
use Rattle.sub_text.proofs.SlowLemmas.{sorted_is, slow_total, timed_through}
use Rattle.sub_text.proofs.slowest.in_order.Goals as goal

pub returns : goal.returns
returns c =
    sorted_is (λ (row : Bor Row). timed_test row.now) _ _ c.in_ok-sort_by.ensures.permutation
    (c.in_ok-sort_by.ensures.sorted (λ x y. is_lt (slow_cmp (timed_test x.now) (timed_test y.now))) (ranks_by slow_total (λ (row : Bor Row). timed_test row.now)) (answers_always _ _ _ (λ f a r q k. search rules)))
    ∙ ap slowest_first (timed_through (λ (row : Bor Row). row.now) c.in_ok-order.order.items ∙ ap (map timed_test) c.in_ok-order.ensures)
