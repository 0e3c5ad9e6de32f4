use Rattle.std.proofs.Common.{◌≡◌, ◌++◌}
use Rattle.partition_times.proofs.shares.append.Given as goal

abbrev pub invariant-loop-id : goal.invariant-loop-id
invariant-loop-id l = l.list ++ l.id-iterator.rest.items ≡ l.initial.list ++ l.fn.ids.items
