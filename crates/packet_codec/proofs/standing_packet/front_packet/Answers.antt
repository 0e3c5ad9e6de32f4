use Rattle.std.proofs.Common.{◌∙◌, sym, arith, ap}
use Rattle.std.specs.Prelude.{length}
use Rattle.packet_codec.proofs.KnownLemmas.{stands_there, front_in_range, front_some, front_length, front_packet, front_is}
use Rattle.packet_codec.proofs.RunsLeft.{some_of}
use Rattle.packet_codec.proofs.standing_packet.front_packet.Goals as goal

pub unwrap-header-requires : goal.unwrap-header-requires
unwrap-header-requires c = some_of _ c.header_at.ensures.none (λ never. stands_there _ _ _ c.requires.2 never)

pub slice_bounds-known_packet-end : goal.slice_bounds-known_packet-end
slice_bounds-known_packet-end c =
    let stands = rw c.unwrap-header.ensures at c.header_at.ensures.found in
    sym (front_length _ _ _ c.requires.2 _ c.type_inv.bytes stands)

pub known_packet-requires : goal.known_packet-requires
known_packet-requires c =
    let stands = rw c.unwrap-header.ensures at c.header_at.ensures.found in
    front_packet _ _ _ c.requires.2 _ c.type_inv.bytes stands

pub returns-clause-only : goal.returns-clause-only
returns-clause-only c = λ event behind found.
    let stands = rw c.unwrap-header.ensures at c.header_at.ensures.found in
    c.known_packet.ensures ∙ front_is _ event behind found _ c.type_inv.bytes stands

pub returns-clause-size : goal.returns-clause-size
returns-clause-size c =
    let stands = rw c.unwrap-header.ensures at c.header_at.ensures.found in
    let taken = front_length _ _ _ c.requires.2 _ c.type_inv.bytes stands in
    let same = ap length c.known_packet.ensures in
    (omega (arith, front_some _ _ _ c.requires.2 _ c.type_inv.bytes stands, taken, same), omega (arith, front_in_range _ _ _ c.requires.2 _ c.type_inv.bytes stands, taken, same))
