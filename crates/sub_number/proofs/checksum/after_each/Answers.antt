use Rattle.std.proofs.Common.{arith}
use Rattle.std.proofs.lemmas.Grind.{common_steps}
use Rattle.sub_number.proofs.ChecksumLemmas.{step_by_table}
use Rattle.sub_number.proofs.checksum.after_each.Goals as goal

pub loop-byte-preserved : goal.loop-byte-preserved
loop-byte-preserved c = grind (arith, common_steps, step_by_table)
