use Rattle.std.proofs.Common.{◌∙◌, ap, max}
use Rattle.std.specs.FinMap as fin
use Rattle.std.specs.Option.{unwrap_or}
use Rattle.outcome_fold.specs.Longest.{kept_time}
use Rattle.outcome_fold.proofs.LongestLemmas.{one_raised}
use Rattle.outcome_fold.proofs.longest_times.LongestTimes.raise.Goals as goal

pub returns-then-len-self : goal.returns-then-len-self
returns-then-len-self c =
    c.settle.ensures ∙ one_raised kept_time _ _ _ c.in_ok-push.ensures.items
    ∙ ap (λ times. fin.insert times c.args.id (max c.args.nanos (unwrap_or (fin.get times c.args.id) 0))) c.self.view_is

pub returns-else-len-self : goal.returns-else-len-self
returns-else-len-self c =
    one_raised kept_time _ _ _ c.in_ok-push.ensures.items
    ∙ ap (λ times. fin.insert times c.args.id (max c.args.nanos (unwrap_or (fin.get times c.args.id) 0))) c.self.view_is
