use Rattle.std.proofs.Common.{length, refl}
use Rattle.packet_codec.specs.Sight.{BeginsWithThis}
use Rattle.stream_reader.specs.declared.first_note.First.TheVariants.{Packet}
use Rattle.worker_lane.proofs.WaitingLemmas.{puts_packet_note}
use Rattle.worker_lane.proofs.scribe.Scribe.put_where_packet.Goals as goal

pub returns-clause-some : goal.returns-clause-some
returns-clause-some c =
    let size = length c.in-Some.packet in
    let stands : BeginsWithThis c.self.inside.reader.bytes c.in-Some.packet = c.in-Some.ensures.some in
    rw (← c.self.view_is, c.size-size.ensures.size) (puts_packet_note c.self.inside.lane c.self.inside.reader.bytes c.in-Some.packet (Packet size) size _ _ _ stands.begins refl stands.front c.in_ok-put_packet.ensures.puts)
