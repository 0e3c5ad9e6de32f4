use Rattle.worker_lane.specs.Scribing.{GivesPackets, most_left}
use Rattle.worker_lane.proofs.whole_stream.take_packets.Given as goal

-- the packets appended so far were given in turn
abbrev pub invariant-loop : goal.invariant-loop
invariant-loop l = GivesPackets l.fn.scribe l.fn.out.items l.scribe l.out.items

abbrev pub decreases-loop : goal.decreases-loop
decreases-loop l = most_left l.scribe
