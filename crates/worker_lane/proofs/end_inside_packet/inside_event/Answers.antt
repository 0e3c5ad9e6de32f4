use Rattle.std.proofs.Common.{rules}
use Rattle.packet_codec.proofs.RoutingLemmas.{route_under_none}
use Rattle.worker_lane.proofs.InsideEventLemmas.{event_fits}
use Rattle.worker_lane.proofs.end_inside_packet.inside_event.Goals as goal

pub reroute-requires-clause-text : goal.reroute-requires-clause-text
reroute-requires-clause-text c = rw (c.in_ok-event.ensures) (route_under_none c.args.lane c.requires)

pub returns-clause-fits : goal.returns-clause-fits
returns-clause-fits c = event_fits _ c.args.lane (search rules) c.requires
