use Rattle.std.proofs.Common.{refl}
use Rattle.drawn_lanes.specs.Outputs.{none_fit}
use Rattle.drawn_lanes.proofs.EventLemmas.{begun_same}
use Rattle.drawn_lanes.proofs.packets.begun_event.Goals as goal

pub returns : goal.returns
returns c = begun_same c.args.lane c.args.test c.in_ok-id.id c.stamp.result _ c.in_ok-id.ensures (c.stamp.ensures none_fit) refl
