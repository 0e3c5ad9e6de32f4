use Rattle.std.proofs.Common.{subst, sym}
use Rattle.packet_codec.specs.Header.{BeginsWithPacket}
use Rattle.packet_codec.specs.Packet.{IsPacket}
use Rattle.stream_reader.specs.declared.note.Note.TheVariants as note
use Rattle.filter_cli.proofs.FitLemmas.{run_fits}
use Rattle.filter_cli.proofs.NotedLemmas.{takes_packet, run_made}
use Rattle.filter_cli.proofs.note_taker.take_first.Goals as goal

pub take-requires-clause-packet : goal.take-requires-clause-packet
take-requires-clause-packet g c =
    let begins : BeginsWithPacket c.args.reader.now.bytes c.in-Packet.size = rw (c.in-Packet.is) at c.requires.first in
    subst IsPacket (sym c.known.ensures) begins.packet

pub take_foreign-requires-clause-packet : goal.take_foreign-requires-clause-packet
take_foreign-requires-clause-packet g c = run_fits _ _ _ c.args.first _ _ c.requires.first c.in-Foreign.is c.front.ensures

pub returns-in_ok-take-in-Packet-clause-some : goal.returns-in_ok-take-in-Packet-clause-some
returns-in_ok-take-in-Packet-clause-some g c = λ is.
    let begins : BeginsWithPacket c.args.reader.now.bytes c.in-Packet.size = rw (c.in-Packet.is) at c.requires.first in
    takes_packet _ _ _ _ c.known.result c.args.first c.in-Packet.size _ _ c.in-Packet.is begins c.known.ensures c.in_ok-take-in-Packet.ensures.ok c.in_ok-take-in-Packet.ensures.text

pub returns-in_ok-take_foreign-in-Foreign-clause-some : goal.returns-in_ok-take_foreign-in-Foreign-clause-some
returns-in_ok-take_foreign-in-Foreign-clause-some g c = λ is. record {
  note = note.Foreign c.front.result.now;
  made = run_made _ _ c.args.first _ _ c.in-Foreign.is c.front.ensures;
  taken = c.in_ok-take_foreign-in-Foreign.ensures.ok;
  grown = c.in_ok-take_foreign-in-Foreign.ensures.text;
}
