use Rattle.run_ledger.proofs.ClosesLemmas.{refused_by, open_at_ok, done}
use Rattle.run_ledger.proofs.fresh_caches.put_cache.Goals as goal

pub returns-in_err-put_cache_file-clause-closes : goal.returns-in_err-put_cache_file-clause-closes
returns-in_err-put_cache_file-clause-closes g c = refused_by _ _ _ _ c.in_err-put_cache_file.ensures.closes c.from_residual.ensures.1

pub returns-clause-closes : goal.returns-clause-closes
returns-clause-closes g c =
    let closes = c.in_ok-put_cache_file.ensures.closes in
    done _ _ _ (open_at_ok _ _ _ closes) closes.kept
