use Rattle.std.proofs.Common.{◌∙◌}
use Rattle.packet_codec.proofs.FieldLemmas.{status_made}
use Rattle.packet_codec.proofs.packet.Packet.status.Goals as goal

pub returns : goal.returns
returns c = λ e s. c.status_of.ensures ∙ status_made _ _ _ c.self.invariant e (rw (← c.self.view_is) at s)
