use Rattle.std.proofs.Common.{◌≡◌, ◌∙◌, false, refl, ap}
use Rattle.stream_reader.proofs.TurnLemmas.{split_parts}
use Rattle.worker_lane.proofs.RecordingLemmas.{recorded_none, recorded_more}
use Rattle.worker_lane.proofs.whole_stream.record_piece.Goals as goal

pub loop-left-init : goal.loop-left-init
loop-left-init c = record { lane = refl; going_on = c.requires.going_on; held = c.requires.held; recorded = recorded_none _ _ _ }

pub loop-left-preserved : goal.loop-left-preserved
loop-left-preserved c =
    let given = c.in_ok-take_packets.ensures.given in
    let going_on : c.take_packets.new.scribe.held.ended ≡ false = given.ended ∙ ap (λ s. s.held.ended) c.feed.ensures.ok in
    record {
      lane = given.lane ∙ ap (λ s. s.lane) c.feed.ensures.ok ∙ c.loop-left.invariant.lane;
      going_on = going_on;
      held = c.in_ok-take_packets.ensures.held going_on;
      recorded = recorded_more _ _ _ _ _ _ _ _ _ _ _ (split_parts _ _ _ _ c.split_at.ensures.front c.split_at.ensures.back) c.feed.ensures.recording given c.loop-left.invariant.recorded;
    }
