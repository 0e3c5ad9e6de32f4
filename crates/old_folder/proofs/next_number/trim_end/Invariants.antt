use Rattle.std.proofs.Common.{length, ◌+◌, ◌≤◌, ◌≡◌, take}
use Rattle.std.specs.List.{suffix_len}
use Rattle.old_folder.specs.Olds.{is_white_space}
use Rattle.old_folder.proofs.next_number.trim_end.Given as goal

abbrev pub invariant-loop-end : goal.invariant-loop-end
invariant-loop-end l = record {
  in_range : l.end ≤ length l.bytes;
  counted : l.end + suffix_len is_white_space l.bytes ≡ length l.bytes + suffix_len is_white_space (take l.end l.bytes);
}

abbrev pub decreases-loop-end : goal.decreases-loop-end
decreases-loop-end l = l.end
