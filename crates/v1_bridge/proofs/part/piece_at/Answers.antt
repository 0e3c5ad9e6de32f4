use Rattle.std.proofs.Common.{◌*◌, arith, sym, ap, length, length-drop}
use Rattle.std.proofs.lemmas.List.{length-take-le}
use Rattle.v1_bridge.proofs.part.piece_at.Goals as goal

pub slice_bounds-result-end : goal.slice_bounds-result-end
slice_bounds-result-end c = sym (length-take-le 65536 c.bytes_behind.result.now (omega (arith, ap length c.bytes_behind.ensures.rest, length-drop (65536 * c.args.number) c.args.bytes.now, c.requires)))
