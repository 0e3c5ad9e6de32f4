use Rattle.std.proofs.Common.{length, ◌-◌, ◌+◌, ◌≤◌, ◌≡◌, drop}
use Rattle.std.specs.List.{position_or_len}
use Rattle.tap_bridge.specs.Blanks.{is_blank}
use Rattle.tap_bridge.proofs.blanks.word_size.Given as goal

abbrev pub invariant-loop-count : goal.invariant-loop-count
invariant-loop-count l = record {
  in_range : l.count ≤ length l.bytes;
  counted : l.count + position_or_len is_blank (drop l.count l.bytes) ≡ position_or_len is_blank l.bytes;
}

abbrev pub decreases-loop-count : goal.decreases-loop-count
decreases-loop-count l = length l.bytes - l.count
