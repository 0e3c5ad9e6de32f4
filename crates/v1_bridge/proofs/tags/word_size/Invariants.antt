use Rattle.std.proofs.Common.{length, ◌-◌, ◌+◌, ◌≤◌, ◌≡◌, drop}
use Rattle.std.specs.List.{position_or_len}
use Rattle.v1_bridge.specs.TagWords.{is_space_or_tab}
use Rattle.v1_bridge.proofs.tags.word_size.Given as goal

abbrev pub invariant-loop-count : goal.invariant-loop-count
invariant-loop-count l = record {
  in_range : l.count ≤ length l.bytes;
  counted : l.count + position_or_len is_space_or_tab (drop l.count l.bytes) ≡ position_or_len is_space_or_tab l.bytes;
}

abbrev pub decreases-loop-count : goal.decreases-loop-count
decreases-loop-count l = length l.bytes - l.count
