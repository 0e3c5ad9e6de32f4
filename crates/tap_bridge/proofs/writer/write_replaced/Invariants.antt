use Rattle.std.proofs.Common.{◌≡◌, ◌++◌, take}
use Rattle.tap_bridge.specs.Texts.{tap_shown_id}
use Rattle.tap_bridge.proofs.writer.write_replaced.Given as goal

abbrev pub invariant-loop-byte : goal.invariant-loop-byte
invariant-loop-byte l = l.text.items ≡ l.fn.text.items ++ tap_shown_id (take l.byte-index l.id)
