use Rattle.std.proofs.Common.{refl, ap}
use Rattle.filter_cli.specs.Tracing.{trace_plan}
use Rattle.filter_cli.specs.declared.request.Asked.TheVariants as wanted
use Rattle.filter_cli.proofs.ChainLemmas.{checked_named, none_given, plan_named, still_stops}
use Rattle.filter_cli.proofs.named_input.trace_named.Goals as goal

pub returns-in_err-filter : goal.returns-in_err-filter
returns-in_err-filter g c input = checked_named (wanted.Tracing c.args.trace) _ _ _ _ none_given (still_stops _ c.from_residual.ensures.1 tt refl)

pub returns : goal.returns
returns g c input = checked_named (wanted.Tracing c.args.trace) _ _ _ _ none_given (plan_named _ _ _ _ _ _ (ap trace_plan c.in_ok-filter.ensures.2) (c.notes_named.ensures input))
