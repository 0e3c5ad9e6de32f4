use Rattle.std.proofs.Common.{◌≡◌, ◌++◌, map, take}
use Rattle.std.specs.List.{flat_map}
use Rattle.sub_text.specs.Texts.{timed_test, slow_line}
use Rattle.sub_text.proofs.slowest.write_lines.Given as goal

abbrev pub invariant-loop-row : goal.invariant-loop-row
invariant-loop-row l = l.text.items ≡ l.fn.text.items ++ flat_map slow_line (map (λ row. timed_test row.now) (take l.row-index l.rows))
