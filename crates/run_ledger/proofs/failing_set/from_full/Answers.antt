use Rattle.std.proofs.Common.{sym, List, ℕ, IfSome, subst}
use Rattle.run_shelf.specs.Stores.{store_kinds}
use Rattle.run_ledger.specs.SoFar.{FailsTo}
use Rattle.run_ledger.proofs.ClosesLemmas.{tells_again}
use Rattle.run_ledger.proofs.LedgerLemmas.{fails_full}
use Rattle.run_ledger.proofs.failing_set.from_full.Goals as goal

pub returns-in_err-take_runs-clause-reads : goal.returns-in_err-take_runs-clause-reads
returns-in_err-take_runs-clause-reads g c = tells_again _ _ _ _ c.in_err-take_runs.ensures.reads c.from_residual.ensures.1

pub returns-clause-ids : goal.returns-clause-ids
returns-clause-ids g c =
    let begin = fails_full _ _ _ _ c.requires.full.full (c.requires.fits c.requires.open) in
    subst (λ (l : List (List ℕ)). IfSome (g.H.Shelf.seen c.args.store.now.shelf.now).told (FailsTo (store_kinds c.args.store.now) c.args.end l)) (sym c.in_ok-into_ids.ensures) (c.in_ok-take_runs.ensures.ids begin)
