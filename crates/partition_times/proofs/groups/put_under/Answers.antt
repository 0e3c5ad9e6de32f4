use Rattle.std.proofs.Common.{arith}
use Rattle.std.proofs.lemmas.Grind.{text_groups}
use Rattle.partition_times.proofs.groups.put_under.Goals as goal

pub returns-clause-ids : goal.returns-clause-ids
returns-clause-ids c = λ q. grind (arith, text_groups)

pub returns-clause-names : goal.returns-clause-names
returns-clause-names c = λ q. grind (arith, text_groups)
