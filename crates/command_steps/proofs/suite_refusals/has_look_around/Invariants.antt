use Rattle.std.proofs.Common.{◌≡◌, length}
use Rattle.command_steps.specs.SuiteTexts.{has_look_around}
use Rattle.command_steps.proofs.suite_refusals.has_look_around.Given as goal

abbrev pub invariant-loop-rest : goal.invariant-loop-rest
invariant-loop-rest l = has_look_around l.rest ≡ has_look_around l.pattern

abbrev pub decreases-loop-rest : goal.decreases-loop-rest
decreases-loop-rest l = length l.rest
