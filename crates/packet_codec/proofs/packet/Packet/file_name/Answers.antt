use Rattle.std.proofs.Common.{◌∙◌}
use Rattle.packet_codec.proofs.FieldLemmas.{file_name_made}
use Rattle.packet_codec.proofs.packet.Packet.file_name.Goals as goal

pub returns : goal.returns
returns c = λ e s. c.name_in.ensures ∙ file_name_made _ _ _ c.self.invariant e (rw (← c.self.view_is) at s)
