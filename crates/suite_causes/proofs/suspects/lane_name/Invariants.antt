use Rattle.std.proofs.Common.{◌≡◌, ◌+◌, not, nat_eq, drop}
use Rattle.std.specs.List.{prefix_len}
use Rattle.suite_causes.proofs.suspects.lane_name.Given as goal

-- there is no slash so far
abbrev pub invariant-loop-end : goal.invariant-loop-end
invariant-loop-end l = prefix_len (λ byte. not (nat_eq byte 47)) l.route ≡ l.end + prefix_len (λ byte. not (nat_eq byte 47)) (drop l.end l.route)
