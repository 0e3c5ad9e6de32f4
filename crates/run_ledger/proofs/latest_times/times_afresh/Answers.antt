use Rattle.std.proofs.Common.{refl}
use Rattle.run_ledger.specs.Ledger.{times_after}
use Rattle.run_ledger.proofs.ClosesLemmas.{tells_again}
use Rattle.run_ledger.proofs.LedgerLemmas.{says_none}
use Rattle.run_ledger.proofs.latest_times.times_afresh.Goals as goal

pub returns-in_err-take_times-clause-reads : goal.returns-in_err-take_times-clause-reads
returns-in_err-take_times-clause-reads g c = tells_again _ _ _ _ c.in_err-take_times.ensures.reads c.from_residual.ensures.1

pub returns-clause-times : goal.returns-clause-times
returns-clause-times g c = c.in_ok-take_times.ensures.times (says_none times_after _ _ _ _ refl c.new-latest.ensures (c.requires.fits c.requires.open))
