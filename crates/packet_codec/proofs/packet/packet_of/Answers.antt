use Rattle.packet_codec.proofs.PacketLemmas.{no_parts}
use Rattle.packet_codec.proofs.packet.packet_of.Goals as goal

pub returns-in_err-parts-clause-none : goal.returns-in_err-parts-clause-none
returns-in_err-parts-clause-none c = rw c.from_residual.ensures (no_parts _ c.args.header c.type_inv.bytes c.requires.stands c.in_err-parts.ensures.none)
