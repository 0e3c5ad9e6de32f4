use Rattle.std.proofs.Common.{◌-◌}
use Rattle.sub_number.specs.Texts.{ArePlain}
use Rattle.sub_number.proofs.ascii.are_plain_by_sixteen.Given as goal

abbrev pub invariant-loop-start : goal.invariant-loop-start
invariant-loop-start l = ArePlain l.bytes 0 l.start

abbrev pub decreases-loop-start : goal.decreases-loop-start
decreases-loop-start l = l.last - l.start
