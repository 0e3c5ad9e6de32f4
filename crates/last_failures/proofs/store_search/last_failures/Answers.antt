use Rattle.run_ledger.proofs.ClosesLemmas.{tells_again}
use Rattle.last_failures.proofs.RunLemmas.{all_found, costs_none}
use Rattle.last_failures.proofs.store_search.last_failures.Goals as goal

pub returns-in_err-read_back-clause-reads : goal.returns-in_err-read_back-clause-reads
returns-in_err-read_back-clause-reads g c = tells_again _ _ _ _ c.in_err-read_back.ensures.reads c.from_residual-in_err-read_back.ensures.1

pub returns-clause-found : goal.returns-clause-found
returns-clause-found g c = all_found _ _ c.args.packets c.args.ids.now _ _ (c.requires.fits c.in_ok-check_open.ensures.open) c.in_ok-search.ensures c.in_ok-read_back.ensures.found
