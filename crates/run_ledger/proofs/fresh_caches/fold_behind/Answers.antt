use Rattle.run_shelf.proofs.ReadingLemmas.{reads_then}
use Rattle.run_ledger.proofs.ClosesLemmas.{done_telling, tells_again}
use Rattle.run_ledger.proofs.fresh_caches.fold_behind.Goals as goal

pub returns-in_err-ids-clause-reads : goal.returns-in_err-ids-clause-reads
returns-in_err-ids-clause-reads g c = tells_again _ _ _ _ c.in_err-ids.ensures.reads c.from_residual-in_err-ids.ensures.1

pub returns-in_err-times-clause-reads : goal.returns-in_err-times-clause-reads
returns-in_err-times-clause-reads g c =
    tells_again _ _ _ _ (reads_then _ _ _ _ _ (done_telling _ _ _ c.in_ok-ids.ensures.reads) c.in_err-times.ensures.reads) c.from_residual-in_err-times.ensures.1
