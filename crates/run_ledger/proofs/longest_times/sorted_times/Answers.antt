use Rattle.outcome_fold.specs.Summed.{shown_time}
use Rattle.outcome_fold.proofs.LastsLemmas.{sorted_shown}
use Rattle.run_ledger.proofs.LongestLemmas.{moved_timed}
use Rattle.run_ledger.proofs.longest_times.sorted_times.Goals as goal

pub returns-clause-sorted : goal.returns-clause-sorted
returns-clause-sorted c = sorted_shown shown_time _ _ _ c.in_ok-times.ensures.times c.sort_unstable.ensures.permutation c.sort_unstable.ensures.sorted

pub returns-clause-timed : goal.returns-clause-timed
returns-clause-timed c = moved_timed shown_time _ _ c.sort_unstable.ensures.permutation c.in_ok-times.ensures.timed
