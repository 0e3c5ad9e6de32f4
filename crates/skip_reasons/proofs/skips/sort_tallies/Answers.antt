use Rattle.std.specs.Ordering.{is_lt}
use Rattle.std.proofs.Common.{rules}
use Rattle.std.proofs.lemmas.List.Sorted.{ranks_by, answers_always, IsPermutation-map}
use Rattle.skip_reasons.specs.declared.skips.Tally.{Tally}
use Rattle.skip_reasons.specs.Skips.{tally, frequency_cmp}
use Rattle.skip_reasons.proofs.TallyLemmas.{sorted_shown, frequency_total}
use Rattle.skip_reasons.proofs.skips.sort_tallies.Goals as goal

pub returns-clause-same : goal.returns-clause-same
returns-clause-same c = IsPermutation-map (λ (t : Tally). tally t.reason.now t.tests) _ _ c.in_ok-sort_by.ensures.permutation

pub returns-clause-order : goal.returns-clause-order
returns-clause-order c =
    sorted_shown (λ (t : Tally). tally t.reason.now t.tests) (λ s t. is_lt (frequency_cmp s t)) _
    (c.in_ok-sort_by.ensures.sorted (λ x y. is_lt (frequency_cmp (tally x.reason.now x.tests) (tally y.reason.now y.tests))) (ranks_by frequency_total (λ (t : Tally). tally t.reason.now t.tests)) (answers_always _ _ _ (λ f a r q k. search rules)))
