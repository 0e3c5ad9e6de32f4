use Rattle.std.proofs.Common.{rules}
use Rattle.packet_codec.proofs.RoutingLemmas.{route_under_none}
use Rattle.worker_lane.proofs.EndingLemmas.{ending_fits, ending_is_event}
use Rattle.worker_lane.proofs.end_packet.returncode_event.Goals as goal

pub reroute-requires-clause-text : goal.reroute-requires-clause-text
reroute-requires-clause-text c = rw (c.in_ok-event.ensures) (route_under_none c.args.lane c.requires.lane)

pub returns-clause-fits : goal.returns-clause-fits
returns-clause-fits c = ending_fits _ c.args.lane c.args.text (search rules) c.requires.lane c.requires.short

pub returns-clause-is_event : goal.returns-clause-is_event
returns-clause-is_event c = ending_is_event _ c.args.lane c.args.text (search rules) c.requires.lane (rw (c.bytes.ensures) at c.are_bytes.ensures) c.requires.short
