use Rattle.std.proofs.Common.{◌≡◌, ◌++◌, take}
use Rattle.std.specs.List.{flat_map}
use Rattle.sub_text.specs.Texts.{part_bytes}
use Rattle.last_failures.proofs.texts.put_row.Given as goal

abbrev pub invariant-loop-part : goal.invariant-loop-part
invariant-loop-part l = l.text.items ≡ l.initial.text.items ++ flat_map part_bytes (take l.part-index l.part-items)
