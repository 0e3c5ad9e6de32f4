use Rattle.std.proofs.Common.{ℕ, List}
use Rattle.packet_codec.specs.Grammar.{AreBytes}
use Rattle.edge_io.specs.Bytes.{AppendsPrefix}
use Rattle.filter_cli.proofs.PumpLemmas.{pumped_prefix, if_told}
use Rattle.filter_cli.proofs.pump_loop.pump.Goals as goal

pub returns-clause-prefix : goal.returns-clause-prefix
returns-clause-prefix g c =
    if_told _ (λ bytes. AreBytes bytes → (all : List ℕ) (status : ℕ) → g.F.Filter.whole c.args.filter bytes all status → AppendsPrefix (g.O.Sink.seen c.args.out.now).told (g.O.Sink.seen c.pump_pieces.new.out).told all) (λ bytes told. λ are all status whole. pumped_prefix g.F.Filter.inside _ _ (g.met.F.Filter.front c.args.filter) (g.met.F.Filter.one c.args.filter) _ _ c.pump_pieces.result bytes all status told are whole c.pump_pieces.ensures)
