use Rattle.std.proofs.Common.{arith}
use Rattle.filter_cli.proofs.TapLemmas.{added_full}
use Rattle.filter_cli.proofs.open_line.OpenLine.add_behind.Goals as goal

pub returns-then-bytes-eq-LONGEST_LINE : goal.returns-then-bytes-eq-LONGEST_LINE
returns-then-bytes-eq-LONGEST_LINE c =
    added_full c.args.bytes.now c.args.self.now.held.items c.args.self.now.long _ _ c.requires.held c.requires.long (omega (arith, c.if-bytes-eq-LONGEST_LINE.true)) c.in_ok-put_output.ensures
