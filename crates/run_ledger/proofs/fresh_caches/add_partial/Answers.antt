use Rattle.std.proofs.Common.{◌≡◌, ◌∙◌, refl, ap, true, List, ℕ}
use Rattle.std.specs.List.Sorted.{IsStrictlySortedBy}
use Rattle.outcome_fold.specs.Order.{text_cmp}
use Rattle.run_ledger.specs.Ledger.{failing_behind}
use Rattle.run_ledger.proofs.CachedLemmas.{set_of}
use Rattle.run_ledger.proofs.FoldLemmas.{if_ok_then}
use Rattle.run_ledger.proofs.fresh_caches.add_partial.Goals as goal

pub returns : goal.returns
returns c filter_tags rows sums =
    let earlier = c.args.earlier in
    if_ok_then (λ (ids : List (List ℕ)). ids ≡ c.change_failing.new.failed) (λ (ids : List (List ℕ)). IsStrictlySortedBy text_cmp earlier → ids ≡ failing_behind earlier (record { partial = true; rows = rows })) c.into_ids.result c.into_ids.ensures
    (λ ids is ordered.
    is ∙ c.in_ok-change_failing.ensures filter_tags rows sums
    ∙ ap (λ (l : List (List ℕ)). failing_behind l (record { partial = true; rows = rows })) (set_of earlier earlier _ c.new-failed.result refl c.new-failed.ensures ordered c.in_ok-put_all.ensures))
