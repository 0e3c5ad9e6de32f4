use Rattle.std.proofs.Common.{◌≡◌, ◌++◌}
use Rattle.suite_plan.specs.Choosing.{ids_in_both}
use Rattle.suite_plan.proofs.choice.those_in.Given as goal

abbrev pub invariant-loop-id : goal.invariant-loop-id
invariant-loop-id l = l.both ++ ids_in_both l.id-iterator.rest.items l.known ≡ ids_in_both l.fn.ids.items l.known
