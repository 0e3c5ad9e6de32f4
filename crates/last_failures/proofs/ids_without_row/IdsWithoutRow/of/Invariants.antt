use Rattle.std.proofs.Common.{◌≡◌, take}
use Rattle.outcome_fold.specs.Order.{in_byte_order}
use Rattle.last_failures.proofs.ids_without_row.IdsWithoutRow.of.Given as goal

abbrev pub invariant-loop-id : goal.invariant-loop-id
invariant-loop-id l = l.missing ≡ in_byte_order (take l.id-index l.ids)
