use Rattle.packet_codec.specs.Header.{BeginsWithPacket}
use Rattle.worker_lane.proofs.WaitingLemmas.{puts_packet_note, puts_foreign_note}
use Rattle.worker_lane.proofs.scribe.Scribe.put_first_of.Goals as goal

pub returns-in_ok-put_packet-in-Packet-clause-some : goal.returns-in_ok-put_packet-in-Packet-clause-some
returns-in_ok-put_packet-in-Packet-clause-some c = λ is.
    let begins : BeginsWithPacket c.args.self.now.held.bytes c.in-Packet.size = rw (c.in-Packet.is) at c.requires.first in
    let same : BeginsWithPacket c.self.inside.reader.bytes c.in-Packet.size = rw (← c.self.view_is) at begins in
    rw (← c.self.view_is) (puts_packet_note c.self.inside.lane c.self.inside.reader.bytes c.known-packet.result c.args.first c.in-Packet.size _ _ _ same c.in-Packet.is c.known-packet.ensures c.in_ok-put_packet-in-Packet.ensures.puts)

pub returns-in_ok-put_stdout-in-Foreign-clause-some : goal.returns-in_ok-put_stdout-in-Foreign-clause-some
returns-in_ok-put_stdout-in-Foreign-clause-some c = λ is.
    let none = rw (← c.self.view_is) at c.requires.none in
    let done = c.in_ok-put_stdout-in-Foreign.ensures in
    rw (← c.self.view_is) (puts_foreign_note c.self.inside.lane c.self.inside.reader.bytes c.front-in-Foreign.result.now c.args.first c.in-Foreign.size c.in-Foreign.field-1 _ _ _ c.in-Foreign.is c.front-in-Foreign.ensures none done.has_packet done.ok)
