use Rattle.std.proofs.Common.{rules, ◌∙◌}
use Rattle.std.proofs.lemmas.List.Sorted.{IsPermutation-map}
use Rattle.outcome_fold.specs.Longest.{kept_time}
use Rattle.outcome_fold.proofs.LongestLemmas.{moved_same, joined_same}
use Rattle.outcome_fold.proofs.longest_times.LongestTimes.settle.Goals as goal

pub returns : goal.returns
returns c =
    joined_same _ kept_time (λ s x k b t y l called. search rules) _ _ _ c.dedup_by.ensures.filtered
    ∙ moved_same _ _ (IsPermutation-map kept_time _ _ c.sort_unstable.ensures.permutation)
    ∙ c.self.view_is
