-- What was read stands in the buffer.
use Rattle.std.proofs.Common.{◌≤◌, length}
use Rattle.real_outside.proofs.published_files.fill.Given as goal

abbrev pub invariant-loop : goal.invariant-loop
invariant-loop l = l.done ≤ length l.buf
