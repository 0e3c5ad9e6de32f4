use Rattle.std.proofs.Common.{◌≡◌, ◌++◌}
use Rattle.std.specs.List.{flat_map}
use Rattle.outcome_fold.proofs.rows.Groups.joined.Given as goal

abbrev pub invariant-loop-group : goal.invariant-loop-group
invariant-loop-group l = l.rows.items ++ flat_map (λ e. e.1) l.group-iterator ≡ flat_map (λ e. e.1) l.initial.group-iterator
