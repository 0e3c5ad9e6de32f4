use Rattle.std.proofs.Common.{◌≡◌, ℕ, ◌+◌, ◌-◌, ◌<◌, ◌≤◌, false, length, drop, is_some}
use Rattle.tap_bridge.specs.Grammar.{directive_at}
use Rattle.tap_bridge.proofs.directive.directive_place.Given as goal

abbrev pub invariant-loop-ahead : goal.invariant-loop-ahead
invariant-loop-ahead l = record {
  in_range : l.from ≤ length l.bytes;
  none : (k : ℕ) → k + 1 < l.from → is_some (directive_at (drop k l.bytes)) ≡ false;
}

abbrev pub decreases-loop-ahead : goal.decreases-loop-ahead
decreases-loop-ahead l = length l.bytes - l.from
