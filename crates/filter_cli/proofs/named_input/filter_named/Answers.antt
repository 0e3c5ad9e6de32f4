use Rattle.std.proofs.Common.{refl, ap}
use Rattle.event_sift.specs.declared.rules.Rules.{Rules}
use Rattle.filter_cli.specs.Filtering.{filter_plan}
use Rattle.filter_cli.proofs.ChainLemmas.{still_stops, still_done, plan_named}
use Rattle.filter_cli.proofs.named_input.filter_named.Goals as goal

pub returns-in_err-rules : goal.returns-in_err-rules
returns-in_err-rules g c input = still_stops _ c.from_residual.ensures.1 c.in_err-rules.ensures.patterns refl

pub returns : goal.returns
returns g c input =
    still_done tt c.in_ok-rules.ensures.patterns (plan_named _ _ _ _ _ _ (ap (λ (r : Rules). filter_plan r c.args.selection.hidden) c.in_ok-rules.ensures.rules) (c.sift_named.ensures input))
