use Rattle.run_ledger.proofs.ClosesLemmas.{done_reading, tells_done, tells_memory, tells_store}
use Rattle.suite_causes.proofs.ran_tests.read_piece.Goals as goal

pub returns-in_err-count-clause-reads : goal.returns-in_err-count-clause-reads
returns-in_err-count-clause-reads g c = tells_store _ _ _ _ c.in_err-count.ensures.reads c.from_residual.ensures.1

pub returns-in_err-feed-clause-reads : goal.returns-in_err-feed-clause-reads
returns-in_err-feed-clause-reads g c = tells_memory _ _ _ (done_reading _ _ _ c.in_ok-count.ensures.reads) c.from_residual-in_err-feed.ensures.1

pub returns-clause-reads : goal.returns-clause-reads
returns-clause-reads g c = tells_done _ _ _ (done_reading _ _ _ c.in_ok-count.ensures.reads)
