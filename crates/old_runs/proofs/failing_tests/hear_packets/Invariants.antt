use Rattle.std.proofs.Common.{length}
use Rattle.packet_codec.specs.Packets.{ArePackets}
use Rattle.old_runs.proofs.PacketLemmas.{IsFoldedTo}
use Rattle.old_runs.proofs.failing_tests.hear_packets.Given as goal

-- the packets so far were heard, and packets are left
abbrev pub invariant-loop-left : goal.invariant-loop-left
invariant-loop-left l = record {
  folded : IsFoldedTo l.bytes l.left l.fn.outcomes l.outcomes;
  packets : ArePackets l.left;
}

abbrev pub decreases-loop-left : goal.decreases-loop-left
decreases-loop-left l = length l.left
