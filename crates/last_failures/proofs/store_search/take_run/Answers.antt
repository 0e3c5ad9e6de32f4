use Rattle.std.proofs.Common.{refl}
use Rattle.run_ledger.proofs.ClosesLemmas.{tells_again}
use Rattle.last_failures.proofs.RunLemmas.{run_more}
use Rattle.last_failures.proofs.store_search.take_run.Goals as goal

pub returns-in_err-run-clause-reads : goal.returns-in_err-run-clause-reads
returns-in_err-run-clause-reads g c = tells_again _ _ _ _ c.in_err-run.ensures.reads c.from_residual.ensures.1

pub returns-clause-found : goal.returns-clause-found
returns-clause-found g c = run_more _ _ c.args.packets _ _ c.in_ok-run.run' c.list.result.now c.args.search.now c.take_rows.new.self refl c.list.ensures c.requires.known (c.requires.fits c.requires.open) c.in_ok-run.ensures.gathered c.in_ok-take_rows.ensures
