use Rattle.std.proofs.Common.{◌≡◌, ◌++◌, map, take}
use Rattle.v1_bridge.specs.Writing.{shown_byte}
use Rattle.v1_bridge.proofs.part_lines.put_replaced.Given as goal

abbrev pub invariant-loop-byte : goal.invariant-loop-byte
invariant-loop-byte l = l.out.items ≡ l.fn.out.items ++ map shown_byte (take l.byte-index l.id)
