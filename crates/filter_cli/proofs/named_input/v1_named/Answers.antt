use Rattle.filter_cli.specs.declared.request.Asked.TheVariants as wanted
use Rattle.filter_cli.proofs.ChainLemmas.{checked_named, none_given}
use Rattle.filter_cli.proofs.V1Lemmas.{fed_none}
use Rattle.filter_cli.proofs.named_input.v1_named.Goals as goal

pub pump_named-requires-clause-has : goal.pump_named-requires-clause-has
pump_named-requires-clause-has g c = fed_none c.new-lines.result.reader c.new-lines.result.held.items c.new-lines.result.long c.new-lines.ensures.held c.new-lines.ensures.long c.new-lines.ensures.reader

pub returns : goal.returns
returns g c input = checked_named wanted.FromV1 _ _ _ _ none_given (c.pump_named.ensures input)
