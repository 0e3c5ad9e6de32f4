use Rattle.packet_codec.proofs.FieldLemmas.{short_route, route_made, same_text}
use Rattle.packet_codec.proofs.packet.Packet.has_route.Goals as goal

pub is_same_option-requires : goal.is_same_option-requires
is_same_option-requires c = short_route _ _ _ c.self.invariant

pub returns : goal.returns
returns c = λ e s. same_text _ _ _ (route_made _ _ _ c.self.invariant e (rw (← c.self.view_is) at s)) c.is_same_option.ensures
