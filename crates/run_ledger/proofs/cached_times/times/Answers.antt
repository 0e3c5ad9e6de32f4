use Rattle.run_ledger.proofs.ClosesLemmas.{done_telling, tells_memory, tells_again}
use Rattle.run_ledger.proofs.cached_times.times.Goals as goal

pub returns-in_err-entries-clause-reads : goal.returns-in_err-entries-clause-reads
returns-in_err-entries-clause-reads g c = tells_again _ _ _ _ c.in_err-entries.ensures.reads c.from_residual.ensures.1

pub returns-in_err-map_of-clause-reads : goal.returns-in_err-map_of-clause-reads
returns-in_err-map_of-clause-reads g c = tells_memory _ _ _ (done_telling _ _ _ c.in_ok-entries.ensures.reads) c.from_residual-in_err-map_of.ensures.1
