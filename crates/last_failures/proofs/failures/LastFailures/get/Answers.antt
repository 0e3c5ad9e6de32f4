use Rattle.std.proofs.Common.{◌∙◌}
use Rattle.outcome_fold.proofs.TableLemmas.{lookup_in_map}
use Rattle.outcome_fold.proofs.OrderLemmas.{texts_total}
use Rattle.last_failures.proofs.failures.LastFailures.get.Goals as goal

pub returns : goal.returns
returns c = c.get.ensures.value ∙ lookup_in_map texts_total _ _
