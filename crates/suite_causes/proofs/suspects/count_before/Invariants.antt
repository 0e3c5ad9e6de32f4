use Rattle.std.proofs.Common.{◌≡◌, ◌+◌, ◌≤◌, not, nat_eq, drop}
use Rattle.std.specs.Cmp.Lexicographic.{pointwise}
use Rattle.std.specs.List.{prefix_len}
use Rattle.suite_causes.proofs.suspects.count_before.Given as goal

-- the test is none of the ids so far, which were counted
abbrev pub invariant-loop-id : goal.invariant-loop-id
invariant-loop-id l = record {
  count : l.count ≡ l.id-index;
  few : l.count ≤ 4294967295;
  left : prefix_len (λ id. not (pointwise nat_eq id l.test)) l.id-items ≡ l.id-index + prefix_len (λ id. not (pointwise nat_eq id l.test)) (drop l.id-index l.id-items);
}
