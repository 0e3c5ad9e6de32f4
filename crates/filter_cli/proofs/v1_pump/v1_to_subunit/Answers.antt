use Rattle.filter_cli.proofs.V1Lemmas.{fed_none}
use Rattle.filter_cli.proofs.V1Prefix.{v1_prefix}
use Rattle.filter_cli.proofs.v1_pump.v1_to_subunit.Goals as goal

pub pump-requires-clause-has : goal.pump-requires-clause-has
pump-requires-clause-has g c = fed_none c.new-lines.result.reader c.new-lines.result.held.items c.new-lines.result.long c.new-lines.ensures.held c.new-lines.ensures.long c.new-lines.ensures.reader

pub returns-clause-prefix : goal.returns-clause-prefix
returns-clause-prefix g c = v1_prefix (g.I.Source.seen c.args.input.now).told _ _ c.pump.ensures.prefix
