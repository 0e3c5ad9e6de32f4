use Rattle.std.proofs.Common.{rules}
use Rattle.packet_codec.proofs.RoutingLemmas.{route_under_none}
use Rattle.worker_lane.proofs.LostEventLemmas.{event_fits, event_is_event}
use Rattle.worker_lane.proofs.lost_test.lost_event.Goals as goal

pub reroute-requires-clause-text : goal.reroute-requires-clause-text
reroute-requires-clause-text c = route_under_none c.args.lane c.requires.lane

pub returns-clause-is_event : goal.returns-clause-is_event
returns-clause-is_event c = event_is_event _ c.args.lane c.args.id (search rules) c.requires.lane c.bytes-bytes.ensures.text c.requires.short

pub returns-clause-fits : goal.returns-clause-fits
returns-clause-fits c = event_fits _ c.args.lane c.args.id (search rules) c.requires.lane c.requires.short
