use Rattle.std.proofs.Common.{sym, ◌∙◌}
use Rattle.v1_bridge.proofs.WriteLemmas.{written_ends}
use Rattle.v1_bridge.proofs.writer.put_behind.Goals as goal

pub returns-clause-last : goal.returns-clause-last
returns-clause-last c = written_ends c.args.last c.args.part (sym c.is_written.ensures ∙ c.if-not-is_written.false)
