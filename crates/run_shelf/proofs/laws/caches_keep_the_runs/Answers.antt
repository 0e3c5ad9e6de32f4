use Rattle.run_shelf.proofs.SameLemmas.{shows_still, repository_still, kinds_still, same_put, same_itself, same_then}
use Rattle.run_shelf.proofs.laws.caches_keep_the_runs.Goals as goal

pub returns-clause-runs : goal.returns-clause-runs
returns-clause-runs c files image runs same shows = shows_still files image same runs shows

pub returns-clause-repository : goal.returns-clause-repository
returns-clause-repository c files image same repository = repository_still files image same repository

pub returns-clause-kinds : goal.returns-clause-kinds
returns-clause-kinds c files image kinds same has = kinds_still files image same kinds has

pub returns-clause-put : goal.returns-clause-put
returns-clause-put c files side bytes = same_put files side bytes

pub returns-clause-same : goal.returns-clause-same
returns-clause-same c files = same_itself files

pub returns-clause-join : goal.returns-clause-join
returns-clause-join c files middle image first second = same_then files middle image first second
