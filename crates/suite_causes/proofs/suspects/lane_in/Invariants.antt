use Rattle.std.proofs.Common.{◌≡◌, ◌-◌, Some}
use Rattle.std.specs.List.{find, range_with_len}
use Rattle.packet_codec.specs.Lanes.{is_in_lane}
use Rattle.suite_causes.specs.Suspects.{lane_in}
use Rattle.suite_causes.proofs.suspects.lane_in.Given as goal

-- it is none of the lanes so far
abbrev pub invariant-loop-lane : goal.invariant-loop-lane
invariant-loop-lane l = lane_in (Some l.route) ≡ find (λ lane. is_in_lane lane (Some l.route)) (range_with_len l.lane (64 - l.lane))
