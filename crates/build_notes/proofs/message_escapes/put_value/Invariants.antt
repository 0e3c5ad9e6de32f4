use Rattle.std.proofs.Common.{◌≡◌, ◌++◌, take}
use Rattle.std.specs.List.{flat_map}
use Rattle.build_notes.specs.Notes.{value_byte}
use Rattle.build_notes.proofs.message_escapes.put_value.Given as goal

abbrev pub invariant-loop-byte : goal.invariant-loop-byte
invariant-loop-byte l = l.text.items ≡ l.fn.text.items ++ flat_map value_byte (take l.byte-index l.bytes)
