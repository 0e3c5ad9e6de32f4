use Rattle.std.proofs.Common.{◌≡◌, ◌≤◌, length}
use Rattle.testr_conf.specs.Variables.{has_variable}
use Rattle.testr_conf.proofs.variable.has_variable.Given as goal

abbrev pub invariant-loop-at : goal.invariant-loop-at
invariant-loop-at l = record { read : has_variable l.wanted l.text ≡ has_variable l.wanted l.rest; shorter : length l.rest ≤ length l.text }

abbrev pub decreases-loop-at : goal.decreases-loop-at
decreases-loop-at l = length l.rest
