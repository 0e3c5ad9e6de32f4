use Rattle.std.proofs.Common.{◌∙◌, arith}
use Rattle.std.proofs.lemmas.List.{take_all}
use Rattle.stream_reader.proofs.TurnLemmas.{pieces_more}
use Rattle.worker_lane.proofs.RecordingLemmas.{all_recorded}
use Rattle.worker_lane.proofs.whole_stream.recorded_of_pieces.Goals as goal

pub loop-piece-preserved : goal.loop-piece-preserved
loop-piece-preserved c =
    let more = pieces_more c.args.pieces.now c.loop-piece.piece-index c.piece-item.result c.bytes.result.now c.loop-piece-test.true c.piece-item.is c.bytes.ensures in
    let recorded = c.in_ok-record_piece.ensures in
    record {
      lane = recorded.lane ∙ c.loop-piece.invariant.lane;
      going_on = recorded.going_on;
      held = recorded.held;
      recording = rw more (recorded.recording _ c.loop-piece.invariant.recording);
    }

pub returns : goal.returns
returns c =
    let before = rw (take_all c.loop-piece.piece-index c.args.pieces.now (omega arith)) at c.loop-piece.invariant.recording in
    all_recorded _ _ _ c.args.lane _ _ _ c.loop-piece.invariant.lane c.loop-piece.invariant.going_on before c.finish.ensures.ended c.in_ok-take_packets.ensures.given c.in_ok-take_packets.ensures.none
