use Rattle.std.proofs.Common.{◌≡◌, ◌≤◌, false, take, length}
use Rattle.std.specs.List.{flat_map}
use Rattle.stream_reader.specs.Room.{most_held}
use Rattle.worker_lane.specs.Scribing.{Recording}
use Rattle.worker_lane.proofs.whole_stream.recorded_of_pieces.Given as goal

-- the packets so far are those of the pieces so far
abbrev pub invariant-loop-piece : goal.invariant-loop-piece
invariant-loop-piece l = record {
  lane : l.scribe.lane ≡ l.lane;
  going_on : l.scribe.held.ended ≡ false;
  held : length l.scribe.held.bytes ≤ most_held;
  recording : Recording (flat_map (λ piece. piece) (take l.piece-index l.pieces)) l.scribe l.out.items;
}
