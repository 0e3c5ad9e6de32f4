use Rattle.std.proofs.Common.{arith}
use Rattle.v1_bridge.proofs.WriteLemmas.{last_at}
use Rattle.v1_bridge.proofs.part_lines.last_byte_or.Goals as goal

pub returns-else-bytes-eq0 : goal.returns-else-bytes-eq0
returns-else-bytes-eq0 c = last_at c.args.before c.args.bytes.now (omega (arith, c.if-bytes-eq0.false))
