use Rattle.std.proofs.Common.{◌≡◌, take}
use Rattle.std.specs.List.{flat_map}
use Rattle.outcome_fold.specs.Order.{in_byte_order}
use Rattle.missing_tests.proofs.missing_report.asked_once.Given as goal

-- the ids of the lists so far
abbrev pub invariant-loop-some : goal.invariant-loop-some
invariant-loop-some l = l.ids ≡ in_byte_order (flat_map (λ list. list) (take l.some-index l.lists))
