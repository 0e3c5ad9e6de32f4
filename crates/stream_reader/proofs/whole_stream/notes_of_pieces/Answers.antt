use Rattle.std.proofs.Common.{arith}
use Rattle.std.proofs.lemmas.List.{take_all}
use Rattle.stream_reader.proofs.TurnLemmas.{whole_at_end, pieces_more}
use Rattle.stream_reader.proofs.whole_stream.notes_of_pieces.Goals as goal

pub loop-piece-preserved : goal.loop-piece-preserved
loop-piece-preserved c =
    let more = pieces_more c.args.pieces.now c.loop-piece.piece-index c.piece-item.result c.bytes.result.now c.loop-piece-test.true c.piece-item.is c.bytes.ensures in
    record {
      going_on = c.in_ok-read_piece.ensures.going_on;
      held = c.in_ok-read_piece.ensures.held;
      notes = rw more (c.in_ok-read_piece.ensures.notes _ c.loop-piece.invariant.notes);
    }

pub returns : goal.returns
returns c =
    let before = rw (take_all c.loop-piece.piece-index c.args.pieces.now (omega arith)) at c.loop-piece.invariant.notes in
    whole_at_end _ _ _ _ _ _ before c.finish.ensures c.in_ok-take_notes.ensures.given c.in_ok-take_notes.ensures.spent
