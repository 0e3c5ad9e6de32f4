use Rattle.std.proofs.Common.{◌≡◌, ◌++◌, take}
use Rattle.std.specs.List.{flat_map}
use Rattle.testr_conf.specs.Jobs.{quoted_byte}
use Rattle.testr_conf.proofs.job.add_quoted_bytes.Given as goal

abbrev pub invariant-loop-byte : goal.invariant-loop-byte
invariant-loop-byte l = l.command.items ≡ l.fn.command.items ++ flat_map quoted_byte (take l.byte-index l.word)
