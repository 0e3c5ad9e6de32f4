use Rattle.packet_codec.proofs.LeastLemmas.{spelled_fit}
use Rattle.packet_codec.proofs.PacketLemmas.{told_parts, told_event_of, told_spelled}
use Rattle.packet_codec.proofs.packet.Packet.event.Goals as goal

pub event_of-requires : goal.event_of-requires
event_of-requires c = told_parts _ _ _ c.self.invariant

pub returns-clause-only : goal.returns-clause-only
returns-clause-only c = rw (← c.self.view_is) (told_event_of _ _ _ _ c.self.invariant c.event_of.ensures)

pub returns-clause-spelled : goal.returns-clause-spelled
returns-clause-spelled c = rw (← c.self.view_is) (told_spelled _ _ _ _ c.self.invariant c.event_of.ensures)

pub returns-clause-fits : goal.returns-clause-fits
returns-clause-fits c = spelled_fit _ c.event_of.result (told_spelled _ _ _ _ c.self.invariant c.event_of.ensures)
