use Rattle.std.proofs.Common.{All, List, ◌++◌, sym, ap, subst, ◌∙◌}
use Rattle.packet_codec.specs.Canonical.{Fits}
use Rattle.packet_codec.specs.declared.event.Event.{Event}
use Rattle.v1_bridge.specs.Reading.{events_at_end}
use Rattle.v1_bridge.specs.Kept.{state_of}
use Rattle.v1_bridge.proofs.FitLemmas.{end_fits_at}
use Rattle.v1_bridge.proofs.reader.V1Reader.close.Goals as goal

pub returns-clause-fits : goal.returns-clause-fits
returns-clause-fits c little =
    subst (All Fits) (sym (c.in_ok-give_end.ensures ∙ ap (λ (l : List Event). l ++ events_at_end c.args.self.open_test) c.new-events.ensures.items)) (end_fits_at (state_of c.args.self) little)
