use Rattle.std.proofs.Common.{arith}
use Rattle.filter_cli.proofs.V1Lemmas.{added_whole, added_behind}
use Rattle.filter_cli.proofs.v1_filter.V1ToSubunit.add_behind.Goals as goal

pub returns-then-bytes-eq-LONGEST_LINE-clause-added : goal.returns-then-bytes-eq-LONGEST_LINE-clause-added
returns-then-bytes-eq-LONGEST_LINE-clause-added c =
    added_whole c.args.self.now.reader c.take_piece.new.reader c.args.bytes.now c.args.self.now.held.items c.args.self.now.long _ _ c.requires.held c.requires.long (omega (arith, c.if-bytes-eq-LONGEST_LINE.true)) c.in_ok-take_piece.ensures.hears

pub returns-clause-added : goal.returns-clause-added
returns-clause-added c =
    added_behind c.args.self.now.reader c.args.self.now.held.items c.args.bytes.now _ c.args.self.now.long _ c.requires.held c.requires.long c.in_ok-extend_from_slice.ensures.items (omega (arith, c.if-bytes-eq-LONGEST_LINE.false, c.requires.bytes))
