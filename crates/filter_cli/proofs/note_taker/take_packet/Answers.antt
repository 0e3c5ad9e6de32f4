use Rattle.std.proofs.Common.{refl, length, subst, sym}
use Rattle.packet_codec.specs.Packet.{IsPacket}
use Rattle.packet_codec.specs.Sight.{BeginsWithThis}
use Rattle.stream_reader.specs.declared.first_note.First.TheVariants.{Packet}
use Rattle.filter_cli.proofs.NotedLemmas.{takes_packet}
use Rattle.filter_cli.proofs.note_taker.take_packet.Goals as goal

pub take-requires-clause-packet : goal.take-requires-clause-packet
take-requires-clause-packet g c =
    let stands : BeginsWithThis c.args.reader.now.bytes c.in-Some.packet = c.in-Some.ensures.some in
    subst IsPacket (sym stands.front) stands.begins.packet

pub returns-clause-some : goal.returns-clause-some
returns-clause-some g c =
    let size = length c.in-Some.packet in
    let stands : BeginsWithThis c.args.reader.now.bytes c.in-Some.packet = c.in-Some.ensures.some in
    rw (c.size.ensures.size) (takes_packet _ _ _ _ c.in-Some.packet (Packet size) size _ _ refl stands.begins stands.front c.in_ok-take.ensures.ok c.in_ok-take.ensures.text)
