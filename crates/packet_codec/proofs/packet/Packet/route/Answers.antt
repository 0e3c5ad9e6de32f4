use Rattle.packet_codec.proofs.FieldLemmas.{short_route, route_made, copied}
use Rattle.packet_codec.proofs.packet.Packet.route.Goals as goal

pub optional_text-requires : goal.optional_text-requires
optional_text-requires c = short_route _ _ _ c.self.invariant

pub returns : goal.returns
returns c = λ e s. copied _ _ _ (route_made _ _ _ c.self.invariant e (rw (← c.self.view_is) at s)) c.optional_text.ensures
