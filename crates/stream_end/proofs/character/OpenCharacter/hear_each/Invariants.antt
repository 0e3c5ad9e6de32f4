use Rattle.std.proofs.Common.{◌≡◌, take}
use Rattle.stream_end.specs.Character.{missing_after_bytes}
use Rattle.stream_end.proofs.character.OpenCharacter.hear_each.Given as goal

abbrev pub invariant-loop-byte : goal.invariant-loop-byte
invariant-loop-byte l = l.self-inside.missing ≡ missing_after_bytes l.fn.self (take l.byte-index l.foreign)
