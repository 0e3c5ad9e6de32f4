use Rattle.std.proofs.Common.{arith}
use Rattle.packet_codec.specs.Packet.{IsPacket}
use Rattle.packet_codec.proofs.PacketLemmas.{no_parts, other_sum, told_by}
use Rattle.packet_codec.proofs.packet.packet_by.Goals as goal

pub returns-then-not-ends_with-clause-none : goal.returns-then-not-ends_with-clause-none
returns-then-not-ends_with-clause-none c =
    other_sum _ c.args.header c.args.sum c.type_inv.bytes c.requires.stands c.requires.sum
    (λ is. let yes = c.ends_with.ensures.1 is in let no = c.if-not-ends_with.true in absurd (grind arith))

pub returns-in_err-parts-clause-none : goal.returns-in_err-parts-clause-none
returns-in_err-parts-clause-none c = rw c.from_residual.ensures (no_parts _ c.args.header c.type_inv.bytes c.requires.stands c.in_err-parts.ensures.none)

pub invariant_of-result : goal.invariant_of-result
invariant_of-result c =
    let packet : IsPacket c.args.bytes.now = c.is_packet_by.ensures.0 (let yes = c.if-not-is_packet_by.false in grind arith) in
    told_by c.args.bytes.now c.args.header c.in_ok-parts.parts c.type_inv.bytes c.requires.stands packet c.in_ok-parts.ensures.found
