use Rattle.event_sift.proofs.PacketLemmas.{begun_again}
use Rattle.event_sift.proofs.held_packets.HeldPackets.turn_to.Goals as goal

pub returns-clause-held : goal.returns-clause-held
returns-clause-held c = begun_again _ _ _ _ _ c.in_ok-set_aside.ensures.1 c.take-packets.ensures.packets c.take-packets.ensures.others
