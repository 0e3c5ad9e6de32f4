use Rattle.std.proofs.Common.{◌≡◌, ◌++◌, take}
use Rattle.std.specs.List.{flat_map}
use Rattle.sub_text.specs.Texts.{failing_line}
use Rattle.sub_text.proofs.failing_ids.write_failing.Given as goal

abbrev pub invariant-loop-id : goal.invariant-loop-id
invariant-loop-id l = l.text.items ≡ l.fn.text.items ++ flat_map failing_line (take l.id-index l.ids)
