use Rattle.std.proofs.Common.{◌∙◌, ap}
use Rattle.v1_bridge.specs.Events.{piece_event, piece_at}
use Rattle.v1_bridge.proofs.PieceLemmas.{pieces_push}
use Rattle.v1_bridge.proofs.part.give_pieces.Goals as goal

pub loop-number-preserved : goal.loop-number-preserved
loop-number-preserved c =
    pieces_push (piece_event c.args.id.now c.args.part.now) (piece_at c.bytes-bytes.result.now) c.args.events.now.items c.loop-number.events.items c.push.new.self.items c.in_ok-piece_event.field-0 c.loop-number.number
    c.loop-number.invariant c.in_ok-push.ensures.items (c.in_ok-piece_event.ensures ∙ ap (piece_event c.args.id.now c.args.part.now) c.piece_at.ensures)
