use Rattle.std.proofs.Common.{◌≡◌, ◌++◌, false, take, drop}
use Rattle.junit_xml.specs.declared.characters.Place.TheVariants.{Value}
use Rattle.junit_xml.specs.Characters.{written}
use Rattle.junit_xml.proofs.characters.are_plain.Given as goal

-- the bytes so far are plain, where none of them was special
abbrev pub invariant-loop-byte : goal.invariant-loop-byte
invariant-loop-byte l = l.special ≡ false → written Value l.bytes ≡ take l.byte-index l.bytes ++ written Value (drop l.byte-index l.bytes)
