use Rattle.std.proofs.Common.{◌∙◌, ap, map}
use Rattle.std.specs.FinMap as fin
use Rattle.outcome_fold.specs.Order.{without}
use Rattle.outcome_fold.specs.Longest.{kept_time, longest_in}
use Rattle.outcome_fold.proofs.SetLemmas.{without_none}
use Rattle.outcome_fold.proofs.LongestLemmas.{more_removed, all_removed}
use Rattle.outcome_fold.proofs.longest_times.LongestTimes.remove_from.Goals as goal

pub loop-time-init : goal.loop-time-init
loop-time-init c = without_none _

pub loop-time-preserved : goal.loop-time-preserved
loop-time-preserved c = more_removed kept_time _ _ _ _ c.loop-time.invariant _ c.time-item.result c.loop-time-test.true c.time-item.is c.remove.ensures

pub returns : goal.returns
returns c =
    all_removed kept_time _ _ _ _ c.loop-time.invariant c.loop-time-test.false
    ∙ ap (λ times. without c.args.ids.now (fin.keys times)) (ap (λ items. longest_in (map kept_time items)) c.deref-time-items.ensures.value ∙ c.self.view_is)
