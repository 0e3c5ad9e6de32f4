use Rattle.old_upgrade.proofs.FailingLemmas.{nothing_ordered}
use Rattle.old_upgrade.proofs.failing_set.failing_ids.Goals as goal

pub returns-in-Ok-None-clause-ordered : goal.returns-in-Ok-None-clause-ordered
returns-in-Ok-None-clause-ordered g c = nothing_ordered _ c.new.ensures
