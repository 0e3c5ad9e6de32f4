use Rattle.std.proofs.Common.{◌≡◌, length}
use Rattle.testr_conf.specs.White.{front_trimmed}
use Rattle.testr_conf.proofs.white_space.trim_front.Given as goal

abbrev pub invariant-loop-rest : goal.invariant-loop-rest
invariant-loop-rest l = front_trimmed l.rest ≡ front_trimmed l.bytes

abbrev pub decreases-loop-rest : goal.decreases-loop-rest
decreases-loop-rest l = length l.rest
