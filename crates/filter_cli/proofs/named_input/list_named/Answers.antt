use Rattle.std.proofs.Common.{ap}
use Rattle.filter_cli.specs.Ls.{ls_plan}
use Rattle.filter_cli.specs.declared.request.Asked.TheVariants as wanted
use Rattle.filter_cli.proofs.ChainLemmas.{checked_named, none_given, plan_named}
use Rattle.filter_cli.proofs.named_input.list_named.Goals as goal

pub returns : goal.returns
returns g c input = checked_named (wanted.Ls c.args.listing) _ _ _ _ none_given (plan_named _ _ _ _ _ _ (ap ls_plan c.new.ensures.listing) (c.notes_named.ensures input))
