use Rattle.std.proofs.Common.{◌++◌, ◌∙◌, ap}
use Rattle.packet_codec.specs.Canonical.{packets_of}
use Rattle.filter_cli.proofs.V1Lemmas.{fed_all}
use Rattle.filter_cli.proofs.v1_filter.V1ToSubunitFilter.close.Goals as goal

pub returns-clause-text : goal.returns-clause-text
returns-clause-text c = λ fed shown h.
    fed_all c.args.self.reader c.end_last.new.self.reader c.args.self.held.items c.args.self.long fed shown c.args.text.now.items c.end_last.new.text.items c.put_events.new.text.items c.in_ok-events.events.items h
    (c.in_ok-end_last.ensures.last fed shown h) c.in_ok-events.ensures.whole (c.in_ok-put_events.ensures ∙ ap (λ events. c.end_last.new.text.items ++ packets_of events) c.deref.ensures.value)
