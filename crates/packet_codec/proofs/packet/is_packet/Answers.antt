use Rattle.std.proofs.Common.{◌≡◌, rules}
use Rattle.std.specs.Prelude.{IsTrue, ◌↔◌}
use Rattle.std.specs.Int.{w32, to_be_bytes}
use Rattle.sub_number.specs.Checksum.{crc32}
use Rattle.packet_codec.proofs.PacketLemmas.{other_texts, by_checksum}
use Rattle.packet_codec.proofs.packet.is_packet.Goals as goal

pub returns-then-have_texts : goal.returns-then-have_texts
returns-then-have_texts c =
    let parts = c.requires.shown in
    let tests : IsTrue c.eq.result ↔ c.split_at.result.1.now ≡ to_be_bytes w32 (crc32 c.split_at.result.0.now) = search rules in
    by_checksum _ _ _ c.args.header parts.0 _ c.type_inv.bytes c.requires.stands c.requires.size parts.1 ((c.have_texts.ensures parts.0 parts.2).0 c.if-have_texts.true) c.split_at.ensures.front c.split_at.ensures.back tests

pub returns-else-have_texts : goal.returns-else-have_texts
returns-else-have_texts c =
    let parts = c.requires.shown in
    other_texts _ c.args.header parts.0 _ c.type_inv.bytes c.requires.stands parts.1 c.if-have_texts.false (c.have_texts.ensures parts.0 parts.2)
