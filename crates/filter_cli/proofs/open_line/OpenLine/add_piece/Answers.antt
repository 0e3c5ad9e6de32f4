use Rattle.std.proofs.Common.{◌≡◌, ◌-◌, ◌++◌, ◌∙◌, ap, length, length-append, take, drop, arith}
use Rattle.tap_bridge.specs.Events.{longest_tap_line}
use Rattle.filter_cli.proofs.TapLemmas.{added_piece, most_open_most, cut_is}
use Rattle.filter_cli.proofs.open_line.OpenLine.add_piece.Goals as goal

pub returns : goal.returns
returns c =
    let held = c.args.self.now.held.items in
    let bytes = c.args.bytes.now in
    let front : c.split_at.result.0.now ≡ take (longest_tap_line - c.len.result) bytes = c.split_at.ensures.front in
    let back : c.split_at.result.1.now ≡ drop (longest_tap_line - c.len.result) bytes = c.split_at.ensures.back in
    let piece : c.deref.result.now ≡ held ++ c.split_at.result.0.now = c.deref.ensures.value ∙ c.in_ok-extend_from_slice.ensures.items in
    let size : length c.deref.result.now ≡ longest_tap_line =
    omega (arith, ap length piece, length-append held c.split_at.result.0.now, c.split_at.ensures.front_len, c.len.ensures, c.requires.held, most_open_most c.args.self.now.long) in
    added_piece held bytes c.split_at.result.0.now c.split_at.result.1.now c.deref.result.now _ c.args.self.now.long _ _ _ _ piece
    (cut_is bytes c.split_at.result.0.now c.split_at.result.1.now (longest_tap_line - c.len.result) front back) size
    c.in_ok-put_output.ensures c.requires.more c.in_ok-add_behind.ensures
