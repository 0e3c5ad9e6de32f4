use Rattle.drawn_lanes.proofs.EventLemmas.{begun_fits, ended_fits}
use Rattle.drawn_lanes.proofs.packets.put_test.Goals as goal

pub encode-requires : goal.encode-requires
encode-requires c = begun_fits c.in_ok-event.event c.args.lane c.args.test c.in_ok-event.ensures c.requires.lane c.requires.test

pub encode-requires-2 : goal.encode-requires-2
encode-requires-2 c = ended_fits c.ended_event.result c.args.lane c.args.test c.args.number (c.ended_event.ensures c.args.lane c.in_ok-event.ensures) c.requires.lane c.requires.test
