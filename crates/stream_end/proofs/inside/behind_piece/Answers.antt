use Rattle.std.proofs.Common.{arith, length-take}
use Rattle.stream_end.proofs.InsideLemmas.{rest_is, past_packet, past_byte, byte_is_some, byte_is_less, stops_so}
use Rattle.stream_end.proofs.inside.behind_piece.Goals as goal

pub slice_bounds-result-count-in-No : goal.slice_bounds-result-count-in-No
slice_bounds-result-count-in-No c = omega (arith, byte_is_some c.args.bytes.now c.in-No.ensures)

pub slice_bounds-result-start-in-No : goal.slice_bounds-result-start-in-No
slice_bounds-result-start-in-No c = omega (arith, byte_is_some c.args.bytes.now c.in-No.ensures)

pub returns-in-Packet-clause-alike : goal.returns-in-Packet-clause-alike
returns-in-Packet-clause-alike c = past_packet c.args.character.now _ c.args.bytes.now _ c.in-Packet.size c.are_bytes.ensures c.in-Packet.ensures c.none.ensures (rest_is c.in-Packet.size c.args.bytes.now)

pub returns-in-No-clause-shorter : goal.returns-in-No-clause-shorter
returns-in-No-clause-shorter c = byte_is_less c.args.bytes.now _ c.in-No.ensures (rest_is 1 c.args.bytes.now)

pub returns-in-No-clause-alike : goal.returns-in-No-clause-alike
returns-in-No-clause-alike c = past_byte c.args.character.now _ c.args.bytes.now _ c.are_bytes.ensures c.in-No.ensures c.hear.ensures (rest_is 1 c.args.bytes.now)

pub returns-in-More-clause-stops : goal.returns-in-More-clause-stops
returns-in-More-clause-stops c = stops_so c.args.character.now c.args.bytes.now c.are_bytes.ensures c.in-More.ensures

pub slice_bounds-hear-end : goal.slice_bounds-hear-end
slice_bounds-hear-end c = omega (arith, length-take 1 c.args.bytes.now, byte_is_some c.args.bytes.now c.in-No.ensures)
