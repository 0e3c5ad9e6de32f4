use Rattle.std.proofs.Common.{◌≡◌, ◌-◌, ◌≤◌, ◌++◌, length, take, drop}
use Rattle.junit_xml.specs.Characters.{written}
use Rattle.junit_xml.proofs.characters.plain_size.Given as goal

abbrev pub invariant-loop-size : goal.invariant-loop-size
invariant-loop-size l = record {
  within : l.size ≤ length l.bytes;
  plain : written l.place l.bytes ≡ take l.size l.bytes ++ written l.place (drop l.size l.bytes);
}

abbrev pub decreases-loop-size : goal.decreases-loop-size
decreases-loop-size l = length l.bytes - l.size
