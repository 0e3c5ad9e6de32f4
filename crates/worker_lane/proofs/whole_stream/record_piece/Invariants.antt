use Rattle.std.proofs.Common.{◌≡◌, ◌≤◌, false, length}
use Rattle.stream_reader.specs.Room.{most_held}
use Rattle.worker_lane.proofs.RecordingLemmas.{IsRecordedTo}
use Rattle.worker_lane.proofs.whole_stream.record_piece.Given as goal

-- the packets so far, and what is held, are those of the parts so far
abbrev pub invariant-loop-left : goal.invariant-loop-left
invariant-loop-left l = record {
  lane : l.scribe.lane ≡ l.fn.scribe.lane;
  going_on : l.scribe.held.ended ≡ false;
  held : length l.scribe.held.bytes ≤ most_held;
  recorded : IsRecordedTo l.fn.scribe l.fn.out.items l.scribe l.out.items l.piece l.left;
}

abbrev pub decreases-loop-left : goal.decreases-loop-left
decreases-loop-left l = length l.left
