use Rattle.std.proofs.Common.{length, ◌-◌, ◌+◌, ◌≤◌, ◌≡◌, drop}
use Rattle.std.specs.List.{prefix_len}
use Rattle.old_folder.specs.Olds.{is_white_space}
use Rattle.old_folder.proofs.next_number.leading_blanks.Given as goal

abbrev pub invariant-loop-count : goal.invariant-loop-count
invariant-loop-count l = record {
  in_range : l.count ≤ length l.bytes;
  counted : l.count + prefix_len is_white_space (drop l.count l.bytes) ≡ prefix_len is_white_space l.bytes;
}

abbrev pub decreases-loop-count : goal.decreases-loop-count
decreases-loop-count l = length l.bytes - l.count
