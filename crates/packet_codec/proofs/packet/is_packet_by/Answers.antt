use Rattle.std.proofs.Common.{◌-◌, length, drop, take, refl}
use Rattle.packet_codec.proofs.PacketLemmas.{other_texts, by_checksum}
use Rattle.packet_codec.proofs.packet.is_packet_by.Goals as goal

pub returns-then-have_texts : goal.returns-then-have_texts
returns-then-have_texts c =
    let parts = c.requires.shown in
    let bytes = c.args.bytes.now in
    by_checksum bytes (take (length bytes - 4) bytes) (drop (length bytes - 4) bytes) c.args.header parts.0 _ c.type_inv.bytes c.requires.stands c.requires.size parts.1 ((c.have_texts.ensures parts.0 parts.2).0 c.if-have_texts.true) refl refl (rw (c.requires.sum) at c.ends_with.ensures)

pub returns-else-have_texts : goal.returns-else-have_texts
returns-else-have_texts c =
    let parts = c.requires.shown in
    other_texts _ c.args.header parts.0 _ c.type_inv.bytes c.requires.stands parts.1 c.if-have_texts.false (c.have_texts.ensures parts.0 parts.2)
