use Rattle.std.proofs.Common.{arith}
use Rattle.std.proofs.lemmas.List.{take_rest}
use Rattle.v1_bridge.proofs.QuoteLemmas.{lines_more}
use Rattle.v1_bridge.proofs.part_lines.put_quoted.Goals as goal

pub loop-rest-preserved : goal.loop-rest-preserved
loop-rest-preserved c =
    lines_more _ c.loop-rest.out.items _ c.loop-rest.rest.now _ c.line_size-size.result c.line_size-size.ensures.size (omega arith) c.loop-rest.invariant c.in_ok-put_line.ensures (take_rest c.loop-rest.rest.now c.line_size-size.result)
