use Rattle.std.proofs.Common.{◌≡◌}
use Rattle.outcome_fold.specs.Grouped.{groups_in, group_table}
use Rattle.outcome_fold.proofs.rows.by_route.Given as goal

abbrev pub invariant-loop-row : goal.invariant-loop-row
invariant-loop-row l = groups_in l.groups ≡ group_table l.yielded
