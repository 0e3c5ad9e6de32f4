use Rattle.std.proofs.Common.{◌≡◌, ◌-◌, length}
use Rattle.worker_lane.specs.Sought.{unheard_of}
use Rattle.worker_lane.proofs.unheard_ids.first_unheard.Given as goal

-- nothing is unheard up to this place
abbrev pub invariant-loop-place : goal.invariant-loop-place
invariant-loop-place l = unheard_of l.ids l.fn.passed l.unheard ≡ unheard_of l.ids l.place l.unheard

abbrev pub decreases-loop-place : goal.decreases-loop-place
decreases-loop-place l = length l.ids - l.place
