use Rattle.std.proofs.Common.{◌≡◌, ◌++◌, take}
use Rattle.std.specs.List.{flat_map}
use Rattle.missing_tests.specs.Missing.{missing_id_line}
use Rattle.missing_tests.proofs.missing_report.put_ids.Given as goal

-- the lines of the ids so far
abbrev pub invariant-loop-id : goal.invariant-loop-id
invariant-loop-id l = l.text.items ≡ l.fn.text.items ++ flat_map missing_id_line (take l.id-index l.ids)
