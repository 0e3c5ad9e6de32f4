use Rattle.std.proofs.Common.{◌≡◌, ◌++◌, take}
use Rattle.std.specs.List.{flat_map}
use Rattle.sub_export.specs.Records.{csv_row_of}
use Rattle.filter_cli.proofs.csv_export.put_rows.Given as goal

abbrev pub invariant-loop-part : goal.invariant-loop-part
invariant-loop-part l = l.text.items ≡ l.fn.text.items ++ flat_map csv_row_of (take l.part-index l.parts)
