use Rattle.filter_cli.specs.declared.request.Asked.TheVariants as wanted
use Rattle.filter_cli.proofs.ChainLemmas.{checked_named, none_given, job_as}
use Rattle.filter_cli.proofs.named_input.attach_named.Goals as goal

pub returns : goal.returns
returns g c input = checked_named (wanted.Output c.args.job) _ _ _ _ none_given (job_as _ _ _ _ _ _ c.new-attaching.ensures.job (c.pump_named.ensures input))
