use Rattle.std.specs.Prelude.{ℕ, List, []}
use Rattle.std.specs.Option.{unwrap_or}
use Rattle.std.specs.FinMap as fin
use Rattle.std.specs.FinMap.{FinMap}
use Rattle.outcome_fold.specs.declared.row.Row.{Row}
use Rattle.outcome_fold.specs.declared.test_key.TestKey.{TestKey}
use Rattle.outcome_fold.specs.Order.{test_cmp}

-- the test of a row
abbrev pub test_of_row : Row → TestKey
test_of_row row = record { route = row.route; id = row.id }

-- the packets of the test, none where it is not there
abbrev pub packets_at : FinMap test_cmp (List ℕ) → TestKey → List ℕ
packets_at packets test = unwrap_or (fin.get packets test) []
