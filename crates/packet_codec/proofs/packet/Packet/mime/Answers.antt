use Rattle.packet_codec.proofs.FieldLemmas.{mime_made}
use Rattle.packet_codec.proofs.packet.Packet.mime.Goals as goal

pub returns : goal.returns
returns c = λ e s. mime_made _ _ _ c.self.invariant e (rw (← c.self.view_is) at s)
