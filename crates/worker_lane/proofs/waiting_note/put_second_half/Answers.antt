use Rattle.worker_lane.proofs.WaitingLemmas.{halves_of, puts_second_half}
use Rattle.worker_lane.proofs.waiting_note.put_second_half.Goals as goal

pub known_packet-requires : goal.known_packet-requires
known_packet-requires c = (c.requires.halved.event, c.requires.halved.spelled)

pub put_second_half-requires-clause-halves : goal.put_second_half-requires-clause-halves
put_second_half-requires-clause-halves c = λ e spelled. halves_of c.args.packet.now e c.requires.halved (rw c.known_packet.ensures at spelled)

pub returns-clause-ok : goal.returns-clause-ok
returns-clause-ok c = puts_second_half c.args.lane c.args.packet.now _ _ c.requires.lane c.requires.halved (c.in_ok-put_second_half.ensures.ok c.requires.halved.event (rw c.known_packet.ensures c.requires.halved.spelled))
