use Rattle.run_ledger.proofs.ClosesLemmas.{tells_again}
use Rattle.suite_causes.proofs.ran_tests.ran_ids.Goals as goal

pub returns-in_err-read_pieces-clause-reads : goal.returns-in_err-read_pieces-clause-reads
returns-in_err-read_pieces-clause-reads g c = tells_again _ _ _ _ c.in_err-read_pieces.ensures.reads c.from_residual-in_err-read_pieces.ensures.1
