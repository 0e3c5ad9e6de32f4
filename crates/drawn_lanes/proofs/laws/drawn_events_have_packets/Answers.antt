use Rattle.drawn_lanes.proofs.RunLemmas.{lane_has_packets}
use Rattle.drawn_lanes.proofs.laws.drawn_events_have_packets.Goals as goal

pub returns : goal.returns
returns c = lane_has_packets
