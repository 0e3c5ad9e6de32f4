use Rattle.std.proofs.Common.{ap}
use Rattle.filter_cli.specs.Stats.{stats_plan}
use Rattle.filter_cli.specs.declared.request.Asked.TheVariants as wanted
use Rattle.filter_cli.proofs.ChainLemmas.{checked_named, none_given, plan_named}
use Rattle.filter_cli.proofs.named_input.count_named.Goals as goal

pub returns : goal.returns
returns g c input = checked_named (wanted.Stats c.args.counting) _ _ _ _ none_given (plan_named _ _ _ _ _ _ (ap stats_plan c.new.ensures.counting) (c.notes_named.ensures input))
