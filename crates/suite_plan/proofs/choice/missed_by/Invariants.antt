use Rattle.std.proofs.Common.{◌≡◌, ◌++◌}
use Rattle.suite_plan.specs.Choosing.{missed_ids}
use Rattle.suite_plan.proofs.choice.missed_by.Given as goal

-- those left so far, with those of the ids to come; what is looked for stays
abbrev pub invariant-loop-id : goal.invariant-loop-id
invariant-loop-id l = (l.finder ≡ l.initial.finder) × (l.missed ++ missed_ids l.initial.finder l.id-iterator.rest.items ≡ missed_ids l.initial.finder l.fn.ids.items)
