use Rattle.std.proofs.Common.{◌∙◌, ap, map}
use Rattle.std.specs.FinMap as fin
use Rattle.std.proofs.lemmas.List.Sorted.{All-permutation}
use Rattle.std.proofs.lemmas.Result.{IfOk-weaker}
use Rattle.outcome_fold.specs.Longest.{kept_time, longest_in, last_of_each}
use Rattle.outcome_fold.specs.Summed.{shown_time}
use Rattle.outcome_fold.proofs.LastsLemmas.{IsShort, sorted_shown, sorted_entries, texts_kept}
use Rattle.outcome_fold.proofs.longest_times.LongestTimes.list.Goals as goal

pub returns-clause-times : goal.returns-clause-times
returns-clause-times c =
    IfOk-weaker c.keep_longest.result _ _
    (λ times is.
    is ∙ ap (λ sorted. last_of_each (map shown_time sorted)) c.deref-2.ensures.value
    ∙ sorted_entries _ _ (sorted_shown shown_time _ _ _ c.in_ok-sorted.ensures.times c.sort_unstable.ensures.permutation c.sort_unstable.ensures.sorted)
    ∙ ap fin.entries (ap (λ items. longest_in (map kept_time items)) c.deref.ensures.value ∙ c.self.view_is)) c.keep_longest.ensures

pub returns-clause-texts : goal.returns-clause-texts
returns-clause-texts c =
    IfOk-weaker c.keep_longest.result _ _
    (λ times is.
    texts_kept shown_time _ times.items (is ∙ ap (λ sorted. last_of_each (map shown_time sorted)) c.deref-2.ensures.value)
    (All-permutation (IsShort shown_time) _ _ c.sort_unstable.ensures.permutation c.in_ok-sorted.ensures.texts)) c.keep_longest.ensures
