use Rattle.std.proofs.Common.{◌++◌, ◌∙◌, All, ap, sym, subst}
use Rattle.packet_codec.specs.Canonical.{Fits, packets_of}
use Rattle.v1_bridge.specs.Reading.{piece}
use Rattle.v1_bridge.proofs.FitLemmas.{fit_none}
use Rattle.filter_cli.proofs.V1Lemmas.{hears_one}
use Rattle.filter_cli.proofs.v1_filter.take_piece.Goals as goal

pub put_events-requires : goal.put_events-requires
put_events-requires c = subst (All Fits) (sym c.deref.ensures.value) (c.in_ok-long_into.ensures.fits c.requires.little (fit_none _ c.clear.ensures.items))

pub returns-clause-hears : goal.returns-clause-hears
returns-clause-hears c =
    hears_one c.args.reader.now c.long_into.new.self (piece c.args.piece.now c.args.last) c.args.text.now.items c.put_events.new.text.items c.clear.new.self.items c.long_into.new.events.items c.clear.ensures.items
    (c.in_ok-put_events.ensures ∙ ap (λ events. c.args.text.now.items ++ packets_of events) c.deref.ensures.value) c.in_ok-long_into.ensures.events c.in_ok-long_into.ensures.read
