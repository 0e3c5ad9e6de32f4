use Rattle.filter_cli.proofs.TapLemmas.{tapped_none}
use Rattle.filter_cli.proofs.TapPrefix.{tap_prefix}
use Rattle.filter_cli.proofs.tap_pump.tap_to_subunit.Goals as goal

pub pump-requires-clause-has : goal.pump-requires-clause-has
pump-requires-clause-has g c = tapped_none c.new-lines.result.reader c.new-lines.result.line.held.items c.new-lines.result.line.long c.new-lines.ensures.held c.new-lines.ensures.long c.new-lines.ensures.reader

pub returns-clause-prefix : goal.returns-clause-prefix
returns-clause-prefix g c = tap_prefix (g.I.Source.seen c.args.input.now).told _ _ c.pump.ensures.prefix
