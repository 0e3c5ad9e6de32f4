use Rattle.std.proofs.Common.{◌≡◌, ◌++◌}
use Rattle.edge_io.proofs.names.in_order.Given as goal

abbrev pub invariant-loop-name : goal.invariant-loop-name
invariant-loop-name l = l.names.items ++ l.name-iterator ≡ l.initial.name-iterator
