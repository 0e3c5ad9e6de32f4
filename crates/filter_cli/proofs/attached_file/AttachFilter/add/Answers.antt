use Rattle.std.proofs.Common.{◌-◌, arith}
use Rattle.std.proofs.lemmas.List.{take_rest}
use Rattle.filter_cli.proofs.AttachLemmas.{add_full}
use Rattle.filter_cli.proofs.attached_file.AttachFilter.add.Goals as goal

pub returns-clause-added : goal.returns-clause-added
returns-clause-added c fed shown h =
    add_full c.args.self.now.job c.args.self.now.held.items c.args.piece.now fed shown c.args.text.now.items c.put_piece.new.text.items c.extend_from_slice-2.new.self.items c.deref.result.now c.clear.new.self.items _ _ (65536 - c.len-room.result)
    h (omega (arith, c.len-room.ensures, c.requires.held)) (omega (arith, c.if-piece-room.false)) c.requires.piece c.in_ok-extend_from_slice-2.ensures.items c.deref.ensures.value c.in_ok-put_piece.ensures c.clear.ensures.items c.in_ok-extend_from_slice-3.ensures.items (take_rest c.args.piece.now (65536 - c.len-room.result))
