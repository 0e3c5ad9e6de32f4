use Rattle.run_ledger.proofs.CacheLemmas.{one_failing}
use Rattle.run_ledger.proofs.TimedLemmas.{one_times}
use Rattle.run_ledger.proofs.cache_laws.caches_hold_one_thing.Goals as goal

pub returns-clause-failing : goal.returns-clause-failing
returns-clause-failing c bytes covers also ids others cache other = one_failing bytes covers also ids others cache other

pub returns-clause-times : goal.returns-clause-times
returns-clause-times c bytes covers also times others cache other = one_times bytes covers also times others cache other
