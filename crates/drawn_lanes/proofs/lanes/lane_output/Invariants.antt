use Rattle.std.proofs.Common.{◌≡◌}
use Rattle.std.specs.List.{flat_map}
use Rattle.packet_codec.specs.Canonical.{canonical}
use Rattle.drawn_lanes.specs.Draws.{state_after}
use Rattle.drawn_lanes.specs.Outputs.{lane_events}
use Rattle.drawn_lanes.proofs.lanes.lane_output.Given as goal

abbrev pub invariant-loop-test : goal.invariant-loop-test
invariant-loop-test l = record {
  out : l.out.items ≡ flat_map canonical (lane_events l.lane l.test l.fn.draws);
  state : l.draws ≡ state_after l.test l.fn.draws;
}
