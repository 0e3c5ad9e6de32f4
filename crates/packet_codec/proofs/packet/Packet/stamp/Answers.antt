use Rattle.packet_codec.proofs.FieldLemmas.{stamp_made}
use Rattle.packet_codec.proofs.packet.Packet.stamp.Goals as goal

pub returns : goal.returns
returns c = λ e s. stamp_made _ _ _ c.self.invariant e (rw (← c.self.view_is) at s)
