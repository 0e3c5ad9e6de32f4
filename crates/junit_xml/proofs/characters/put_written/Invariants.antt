use Rattle.std.proofs.Common.{◌≡◌, ◌-◌, ◌≤◌, ◌++◌, length, take, drop}
use Rattle.junit_xml.specs.Characters.{written}
use Rattle.junit_xml.proofs.characters.put_written.Given as goal

abbrev pub invariant-loop-done : goal.invariant-loop-done
invariant-loop-done l = record {
  within : l.done ≤ length l.bytes;
  ok : l.text.items ++ written l.place (drop l.done l.bytes) ≡ l.initial.text.items ++ written l.place l.bytes;
  kept : take (length l.initial.text.items) l.text.items ≡ l.initial.text.items;
}

abbrev pub decreases-loop-done : goal.decreases-loop-done
decreases-loop-done l = length l.bytes - l.done
