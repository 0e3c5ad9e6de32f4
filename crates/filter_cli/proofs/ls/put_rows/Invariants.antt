use Rattle.std.proofs.Common.{◌≡◌, ◌++◌, take}
use Rattle.std.specs.List.{flat_map}
use Rattle.filter_cli.specs.Ls.{shown_line}
use Rattle.filter_cli.proofs.ls.put_rows.Given as goal

abbrev pub invariant-loop-row : goal.invariant-loop-row
invariant-loop-row l = l.text.items ≡ l.fn.text.items ++ flat_map (shown_line l.listing) (take l.row-index l.rows)
