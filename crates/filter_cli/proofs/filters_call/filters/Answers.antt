use Rattle.filter_cli.proofs.ChainLemmas.{tells_as}
use Rattle.filter_cli.proofs.PromiseLemmas.{promises}
use Rattle.filter_cli.proofs.filters_call.filters.Goals as goal

pub returns : goal.returns
returns g c = record { promises = promises _ _ _ _ (record { outcome = c.filter-outcome.result; done = c.filter-outcome.ensures; told = tells_as _ _ _ _ _ _ c.name_of.ensures c.answer.ensures }) }
