use Rattle.std.proofs.Common.{◌∙◌, ap, map}
use Rattle.std.proofs.lemmas.Result.{IfOk-weaker}
use Rattle.outcome_fold.specs.Longest.{last_of_each}
use Rattle.outcome_fold.specs.Summed.{shown_time}
use Rattle.run_ledger.proofs.LongestLemmas.{kept_timed}
use Rattle.run_ledger.proofs.longest_times.longest_times.Goals as goal

pub returns-clause-times : goal.returns-clause-times
returns-clause-times c =
    IfOk-weaker c.keep_longest.result _ _
    (λ times is. (map shown_time c.in_ok-sorted.sorted.items, c.in_ok-sorted.ensures.sorted, is ∙ ap (λ sorted. last_of_each (map shown_time sorted)) c.deref.ensures.value)) c.keep_longest.ensures

pub returns-clause-timed : goal.returns-clause-timed
returns-clause-timed c =
    IfOk-weaker c.keep_longest.result _ _
    (λ times is. kept_timed shown_time c.in_ok-sorted.sorted.items times.items (is ∙ ap (λ sorted. last_of_each (map shown_time sorted)) c.deref.ensures.value) c.in_ok-sorted.ensures.timed) c.keep_longest.ensures
