use Rattle.std.proofs.Common.{◌≡◌, ◌++◌, length}
use Rattle.v1_bridge.specs.Writing.{brackets_spaced}
use Rattle.v1_bridge.proofs.part_lines.put_quoted.Given as goal

abbrev pub invariant-loop-rest : goal.invariant-loop-rest
invariant-loop-rest l = l.out.items ++ brackets_spaced 10 l.rest ≡ l.fn.out.items ++ brackets_spaced 10 l.text

abbrev pub decreases-loop-rest : goal.decreases-loop-rest
decreases-loop-rest l = length l.rest
