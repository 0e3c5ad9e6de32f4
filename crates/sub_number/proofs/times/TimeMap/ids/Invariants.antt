use Rattle.std.proofs.Common.{◌≡◌, ◌++◌}
use Rattle.sub_number.proofs.times.TimeMap.ids.Given as goal

abbrev pub invariant-loop-id : goal.invariant-loop-id
invariant-loop-id l = l.ids ++ l.id-iterator ≡ l.initial.id-iterator
