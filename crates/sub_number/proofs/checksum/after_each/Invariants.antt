use Rattle.std.proofs.Common.{◌≡◌, take}
use Rattle.std.specs.Prelude.{fold}
use Rattle.sub_number.specs.Checksum.{crc_step}
use Rattle.sub_number.proofs.checksum.after_each.Given as goal

abbrev pub invariant-loop-byte : goal.invariant-loop-byte
invariant-loop-byte l = l.register ≡ fold crc_step l.fn.register (take l.byte-index l.bytes)
