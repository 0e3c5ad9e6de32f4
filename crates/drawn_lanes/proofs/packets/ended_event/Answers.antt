use Rattle.drawn_lanes.specs.Outputs.{drawn_nanos_fit}
use Rattle.drawn_lanes.proofs.EventLemmas.{ended_same}
use Rattle.drawn_lanes.proofs.packets.ended_event.Goals as goal

pub returns : goal.returns
returns c lane is = ended_same lane c.args.test c.args.number c.args.event c.stamp.result c.status.result is (c.stamp.ensures (drawn_nanos_fit c.args.number)) c.status.ensures
