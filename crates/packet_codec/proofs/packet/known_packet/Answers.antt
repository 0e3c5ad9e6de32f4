use Rattle.std.proofs.Common.{sym}
use Rattle.packet_codec.proofs.RunsLeft.{some_of}
use Rattle.packet_codec.proofs.PacketLemmas.{told_at, told_by, header_never}
use Rattle.packet_codec.proofs.packet.known_packet.Goals as goal

pub unwrap-header-requires : goal.unwrap-header-requires
unwrap-header-requires c = some_of _ c.header_at.ensures.none (λ never. header_never _ c.requires.0 c.requires.1 never)

pub packet_parts-requires-clause-size : goal.packet_parts-requires-clause-size
packet_parts-requires-clause-size c =
    let stands = rw c.unwrap-header.ensures at c.header_at.ensures.found in
    sym (told_at _ _ c.requires.0 c.type_inv.bytes stands c.requires.1).size

pub unwrap-parts-requires : goal.unwrap-parts-requires
unwrap-parts-requires c =
    let stands = rw c.unwrap-header.ensures at c.header_at.ensures.found in
    some_of _ c.packet_parts.ensures.none (λ never. never _ (told_at _ _ c.requires.0 c.type_inv.bytes stands c.requires.1).shape)

pub invariant_of-result : goal.invariant_of-result
invariant_of-result c =
    let stands = rw c.unwrap-header.ensures at c.header_at.ensures.found in
    told_by c.args.bytes.now c.unwrap-header.result c.unwrap-parts.result c.type_inv.bytes stands c.requires (rw c.unwrap-parts.ensures at c.packet_parts.ensures.found)
