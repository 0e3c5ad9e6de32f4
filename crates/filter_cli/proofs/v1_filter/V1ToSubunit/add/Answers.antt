use Rattle.std.proofs.Common.{arith}
use Rattle.filter_cli.proofs.V1Lemmas.{added_few}
use Rattle.filter_cli.proofs.v1_filter.V1ToSubunit.add.Goals as goal

pub returns-then-bytes-room-clause-added : goal.returns-then-bytes-room-clause-added
returns-then-bytes-room-clause-added c = added_few c.args.self.now.reader c.args.self.now.held.items c.args.bytes.now _ c.args.self.now.long _ c.in_ok-extend_from_slice.ensures.items (omega arith)
