use Rattle.std.proofs.Common.{arith}
use Rattle.worker_lane.proofs.RecordingLemmas.{packets_one, packets_then}
use Rattle.stream_reader.proofs.RoomLemmas.{spent_short}
use Rattle.command_steps.proofs.RecordLemmas.{none_given, packet_more}
use Rattle.command_steps.proofs.input_recorder.gather_packets.Goals as goal

pub loop-packets-preserved : goal.loop-packets-preserved
loop-packets-preserved c =
    let next = c.in_ok-next_into.ensures in
    record {
      given = packets_then _ _ _ _ _ _ c.loop-packets.invariant.given (packets_one _ _ _ _ (next.given c.if-branch.true));
      packets = packet_more _ _ _ _ (next.packet c.if-branch.true) c.loop-packets.invariant.packets;
      left = omega (arith, c.loop-packets.invariant.left, next.shorter c.if-branch.true);
      few = omega (arith, c.if-len-ge-PIECE.false, c.len.ensures);
    }

pub returns-in_err-next_into-clause-given : goal.returns-in_err-next_into-clause-given
returns-in_err-next_into-clause-given c = packets_then _ _ _ _ _ _ c.loop-packets.invariant.given (none_given _ _ _ _ c.in_err-next_into.ensures.err.0 c.in_err-next_into.ensures.err.1)

pub returns-then-len-ge-PIECE-clause-given : goal.returns-then-len-ge-PIECE-clause-given
returns-then-len-ge-PIECE-clause-given c = packets_then _ _ _ _ _ _ c.loop-packets.invariant.given (packets_one _ _ _ _ (c.in_ok-next_into.ensures.given c.if-branch.true))

pub returns-then-len-ge-PIECE-clause-packets : goal.returns-then-len-ge-PIECE-clause-packets
returns-then-len-ge-PIECE-clause-packets c = packet_more _ _ _ _ (c.in_ok-next_into.ensures.packet c.if-branch.true) c.loop-packets.invariant.packets

pub returns-clause-given : goal.returns-clause-given
returns-clause-given c =
    let none = c.in_ok-next_into.ensures.none c.if-branch.false in
    packets_then _ _ _ _ _ _ c.loop-packets.invariant.given (none_given _ _ _ _ none.1 none.2)

pub returns-clause-held : goal.returns-clause-held
returns-clause-held c =
    let none = c.in_ok-next_into.ensures.none c.if-branch.false in
    λ _ going_on. rw (none.1) (spent_short _ _ (rw (none.1) at going_on) none.0.0.1)
