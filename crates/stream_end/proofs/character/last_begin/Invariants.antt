use Rattle.std.proofs.Common.{◌≤◌, length}
use Rattle.stream_end.proofs.character.last_begin.Given as goal

abbrev pub invariant-loop-place : goal.invariant-loop-place
invariant-loop-place l = l.place ≤ length l.foreign

abbrev pub decreases-loop-place : goal.decreases-loop-place
decreases-loop-place l = l.place
