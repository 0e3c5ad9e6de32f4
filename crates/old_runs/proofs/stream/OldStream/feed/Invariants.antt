use Rattle.std.proofs.Common.{length}
use Rattle.old_runs.specs.Streams.{AreGoingOn}
use Rattle.old_runs.proofs.StreamLemmas.{IsFedTo}
use Rattle.old_runs.proofs.stream.OldStream.feed.Given as goal

-- the parts so far were fed
abbrev pub invariant-loop-left : goal.invariant-loop-left
invariant-loop-left l = record {
  going_on : AreGoingOn l.self;
  fed : IsFedTo l.fn.self l.self l.piece l.left l.fn.packets.items l.packets.items;
}

abbrev pub decreases-loop-left : goal.decreases-loop-left
decreases-loop-left l = length l.left
