use Rattle.stream_reader.proofs.RoomLemmas.{spent_short}
use Rattle.worker_lane.proofs.RecordingLemmas.{packets_one, packets_then}
use Rattle.worker_lane.proofs.whole_stream.take_packets.Goals as goal

pub loop-preserved : goal.loop-preserved
loop-preserved c = packets_then _ _ _ _ _ _ c.loop.invariant (packets_one _ _ _ _ (c.in_ok-next_into.ensures.given c.if-branch.true))

pub returns-clause-held : goal.returns-clause-held
returns-clause-held c =
    let none = c.in_ok-next_into.ensures.none c.if-branch.false in
    λ going_on. rw (none.1) (spent_short _ _ (rw (none.1) at going_on) none.0.0.1)
