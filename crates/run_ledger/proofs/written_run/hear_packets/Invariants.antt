use Rattle.std.proofs.Common.{length}
use Rattle.packet_codec.specs.Packets.{ArePackets}
use Rattle.run_ledger.proofs.WrittenLemmas.{IsSummedTo, IsToldTo}
use Rattle.run_ledger.proofs.written_run.hear_packets.Given as goal

-- the packets so far were heard, and packets are left
abbrev pub invariant-loop-left : goal.invariant-loop-left
invariant-loop-left g l = record {
  summed : IsSummedTo l.bytes l.left l.fn.summing l.summing;
  told : IsToldTo g.L.RowListener.heard l.bytes l.left l.fn.summing l.summing l.fn.listener l.listener;
  packets : ArePackets l.left;
}

abbrev pub decreases-loop-left : goal.decreases-loop-left
decreases-loop-left g l = length l.left
