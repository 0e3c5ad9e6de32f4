use Rattle.std.proofs.Common.{◌++◌, ◌∙◌, All, ap, sym, subst}
use Rattle.packet_codec.specs.Canonical.{Fits, packets_of}
use Rattle.tap_bridge.proofs.SizeLemmas.{fit_none}
use Rattle.filter_cli.proofs.TapLemmas.{taken_events}
use Rattle.filter_cli.proofs.tap_filter.give_line.Goals as goal

pub put_events-requires : goal.put_events-requires
put_events-requires c = subst (All Fits) (sym c.deref.ensures.value) (c.in_ok-line_into.ensures.fits (fit_none _ c.clear.ensures.items))

pub returns : goal.returns
returns c lines shown h =
    taken_events lines c.args.line.now shown c.args.text.now.items c.put_events.new.text.items c.args.reader.now c.line_into.new.self c.clear.new.self.items c.line_into.new.events.items h
    (c.in_ok-line_into.ensures.read lines h.taken) c.clear.ensures.items (c.in_ok-line_into.ensures.events lines h.taken)
    (c.in_ok-put_events.ensures ∙ ap (λ events. c.args.text.now.items ++ packets_of events) c.deref.ensures.value)
