use Rattle.std.proofs.Common.{◌≡◌, ◌++◌}
use Rattle.std.specs.List.{filter}
use Rattle.partition_times.specs.Patterns.{is_found}
use Rattle.suite_plan.proofs.choice.found_in.Given as goal

-- those found so far, with those of the ids that are left; what is looked for stays
abbrev pub invariant-loop-id : goal.invariant-loop-id
invariant-loop-id l =
    (l.first ≡ l.initial.first) × (l.second ≡ l.initial.second)
    × (l.found ++ filter (is_found (l.initial.first ++ l.initial.second)) l.id-iterator.rest.items ≡ filter (is_found (l.initial.first ++ l.initial.second)) l.fn.ids.items)
