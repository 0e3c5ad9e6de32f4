use Rattle.std.specs.Ordering.{is_lt}
use denote.Ref.{Bor}
use Rattle.std.proofs.Common.{ℕ, List, rules}
use Rattle.std.proofs.lemmas.List.Sorted.{ranks_by, answers_always, IsPermutation-map}
use Rattle.outcome_fold.specs.Order.{text_cmp}
use Rattle.outcome_fold.proofs.OrderLemmas.{texts_total}
use Rattle.skip_reasons.proofs.TallyLemmas.{sorted_shown}
use Rattle.skip_reasons.proofs.skips.sort_reasons.Goals as goal

pub returns-clause-same : goal.returns-clause-same
returns-clause-same c = IsPermutation-map (λ (reason : Bor (List ℕ)). reason.now) _ _ c.in_ok-sort_by.ensures.permutation

pub returns-clause-order : goal.returns-clause-order
returns-clause-order c =
    sorted_shown (λ (reason : Bor (List ℕ)). reason.now) (λ s t. is_lt (text_cmp s t)) _
    (c.in_ok-sort_by.ensures.sorted (λ x y. is_lt (text_cmp x.now y.now)) (ranks_by texts_total (λ (reason : Bor (List ℕ)). reason.now)) (answers_always _ _ _ (λ f a r q k. search rules)))
