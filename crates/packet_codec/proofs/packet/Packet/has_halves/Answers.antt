use Rattle.packet_codec.proofs.HalfLemmas.{long_is}
use Rattle.packet_codec.proofs.packet.Packet.has_halves.Goals as goal

pub returns : goal.returns
returns c = λ e s. long_is _ _ _ c.self.invariant e (rw (← c.self.view_is) at s) c.is_long.result c.is_long.ensures
