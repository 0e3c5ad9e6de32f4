use Rattle.testr_commands.proofs.OrderLemmas.{jobs_in_order}
use Rattle.testr_commands.proofs.laws.instances_are_disposed_of_last.Goals as goal

pub returns : goal.returns
returns c = record { order = jobs_in_order }
