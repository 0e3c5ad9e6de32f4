use Rattle.run_ledger.specs.Ledger.{times_after}
use Rattle.run_ledger.proofs.CachedLemmas.{said_to}
use Rattle.run_ledger.proofs.ClosesLemmas.{tells_again}
use Rattle.run_ledger.proofs.cached_times.go_on.Goals as goal

pub returns-in_err-take_times-clause-reads : goal.returns-in_err-take_times-clause-reads
returns-in_err-take_times-clause-reads g c = tells_again _ _ _ _ c.in_err-take_times.ensures.reads c.from_residual.ensures.1

pub returns-clause-times : goal.returns-clause-times
returns-clause-times g c said =
    c.in_ok-take_times.ensures.times (said_to times_after _ _ c.args.cache.covers c.args.cache.times (c.requires.fits c.requires.open) said)
