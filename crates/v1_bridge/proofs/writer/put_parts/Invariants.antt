use Rattle.std.proofs.Common.{◌≡◌, ◌++◌}
use Rattle.v1_bridge.specs.Writing.{last_byte_behind, parts_text}
use Rattle.v1_bridge.proofs.writer.put_parts.Given as goal

abbrev pub invariant-loop-part : goal.invariant-loop-part
invariant-loop-part l = record {
  text : l.out.items ≡ l.fn.out.items ++ parts_text l.fn.last l.yielded;
  last : l.before ≡ last_byte_behind l.fn.last (parts_text l.fn.last l.yielded);
}
