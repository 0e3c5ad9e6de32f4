use Rattle.std.proofs.Common.{◌≡◌, ◌*◌, ◌/◌, ◌-◌, ◌+◌, ◌≤◌, ◌++◌, length, take, drop, ap, arith, rules, length-append, length-drop}
use Rattle.std.specs.List.{copy_within}
use Rattle.std.specs.Vec.{vec_capacity}
use Rattle.crc_parts.specs.Prefixes.{HasPrefixes}
use Rattle.stream_reader.proofs.BufferLemmas.{moved_is, moved_along}
use Rattle.stream_reader.proofs.buffer.Buffer.append.Goals as goal

pub invariant_of-self-else-self-len : goal.invariant_of-self-else-self-len
invariant_of-self-else-self-len c =
    let items = c.self.inside.bytes.items in
    let gone = 64 * (c.self.inside.given / 64) in
    let given : c.self.inside.given ≤ length items = c.self.invariant.0 in
    let in_range : gone ≤ length items = omega (arith, given) in
    let copied : c.copy_within.new.self.items ≡ copy_within items gone (length items) 0 = search rules in
    let cut : c.truncate.new.self.items ≡ take (length items - gone) c.copy_within.new.self.items = search rules in
    let moved : c.truncate.new.self.items ≡ drop gone items = moved_is items c.copy_within.new.self.items c.truncate.new.self.items gone in_range copied cut in
    let grown : c.extend_from_slice-else-self-len.new.self.items ≡ c.truncate.new.self.items ++ c.args.piece.now = search rules in
    let along : HasPrefixes c.let_go.new.self (drop gone (take c.self.inside.prefixes.count items)) = c.let_go.ensures (take c.self.inside.prefixes.count items) c.self.invariant.4 in
    let kept = moved_along c.let_go.new.self c.self.inside.prefixes.count gone items c.truncate.new.self.items c.extend_from_slice-else-self-len.new.self.items c.args.piece.now c.self.invariant.3 moved grown along in
    let size : length c.extend_from_slice-else-self-len.new.self.items ≡ (length items - gone) + length c.args.piece.now = omega (arith, ap length grown, length-append c.truncate.new.self.items c.args.piece.now, ap length moved, length-drop gone items) in
    let room : length (drop c.self.inside.given items) + length c.args.piece.now ≤ 4325376 = rw (← c.self.view_is) at c.requires in
    let capacity : 5373952 ≤ vec_capacity c.extend_from_slice-else-self-len.new.self = search rules in
    (omega (arith, size, given), capacity, omega (arith, size, room, length-drop c.self.inside.given items, given), kept.0, kept.1, omega (arith, size, room, length-drop c.self.inside.given items, given))
