use Rattle.std.proofs.Common.{◌≡◌, ◌+◌, not, nat_eq, drop}
use Rattle.std.specs.List.{prefix_len}
use Rattle.outcome_fold.proofs.part.line_size.Given as goal

-- there is no newline so far
abbrev pub invariant-loop-end : goal.invariant-loop-end
invariant-loop-end l = prefix_len (λ byte. not (nat_eq byte 10)) l.bytes ≡ l.end + prefix_len (λ byte. not (nat_eq byte 10)) (drop l.end l.bytes)
