use Rattle.packet_codec.proofs.KnownLemmas.{packet_there}
use Rattle.packet_rows.proofs.reading.answer_front.Goals as goal

pub front_packet-packet-requires : goal.front_packet-packet-requires
front_packet-packet-requires c = packet_there c.args.given.now c.in-Packet.field-0 c.in-Packet.ensures
