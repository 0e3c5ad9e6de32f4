use Rattle.std.proofs.Common.{◌≡◌, ◌∙◌, false, ap}
use Rattle.stream_reader.proofs.TurnLemmas.{read_more, split_parts}
use Rattle.stream_reader.proofs.RoomLemmas.{spent_short}
use Rattle.stream_reader.proofs.whole_stream.read_piece.Goals as goal

pub loop-left-preserved : goal.loop-left-preserved
loop-left-preserved c =
    let given = c.in_ok-take_notes.ensures.given in
    let going_on : c.take_notes.new.reader.ended ≡ false = given.ended ∙ ap (λ h. h.ended) c.feed.ensures in
    record {
      going_on = going_on;
      held = spent_short _ _ going_on c.in_ok-take_notes.ensures.spent;
      read = read_more _ _ _ _ _ _ _ _ _ _ _ c.are_bytes.ensures (split_parts _ _ _ _ c.split_at.ensures.front c.split_at.ensures.back) c.feed.ensures given c.loop-left.invariant.read;
    }
