use Rattle.std.proofs.Common.{◌∙◌}
use Rattle.packet_codec.proofs.FieldLemmas.{file_bytes_made}
use Rattle.packet_codec.proofs.packet.Packet.file_bytes.Goals as goal

pub returns : goal.returns
returns c = λ e s. c.bytes_in.ensures ∙ file_bytes_made _ _ _ c.self.invariant e (rw (← c.self.view_is) at s)
