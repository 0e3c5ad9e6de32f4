use Rattle.std.proofs.Common.{◌≡◌, refl, sym, arith, List, ℕ, IfSome, subst}
use Rattle.run_shelf.specs.Stores.{store_kinds}
use Rattle.run_ledger.specs.SoFar.{FailsTo}
use Rattle.run_ledger.proofs.CachedLemmas.{fails_said, set_of}
use Rattle.run_ledger.proofs.ClosesLemmas.{tells_again}
use Rattle.run_ledger.proofs.CostLemmas.{costs_nothing, costs_up_to}
use Rattle.run_ledger.proofs.LedgerLemmas.{fails_at}
use Rattle.run_ledger.proofs.cached_failing.go_on.Goals as goal

pub returns-in_err-take_runs-clause-reads : goal.returns-in_err-take_runs-clause-reads
returns-in_err-take_runs-clause-reads g c = tells_again _ _ _ _ c.in_err-take_runs.ensures.reads c.from_residual-in_err-take_runs.ensures.1

pub returns-clause-ids : goal.returns-clause-ids
returns-clause-ids g c said =
    let state = (g.H.Shelf.seen c.args.store.now.shelf.now).told in
    let kinds = store_kinds c.args.store.now in
    let covers = c.args.cache.covers in
    let ids = c.args.cache.ids in
    let set : c.put_all.new.self ≡ ids = set_of ids ids c.put_all.new.self c.new-failed.result refl c.new-failed.ensures c.requires.ordered c.in_ok-put_all.ensures in
    let begin : IfSome state (FailsTo kinds covers ids) = fails_said state kinds covers ids (c.requires.fits c.requires.open) said in
    subst (λ (l : List (List ℕ)). IfSome state (FailsTo kinds c.args.end l)) (sym c.in_ok-into_ids.ensures)
    (c.in_ok-take_runs.ensures.ids (subst (λ (l : List (List ℕ)). IfSome state (FailsTo kinds covers l)) (sym set) begin))

pub returns-then-covers-from-clause-ids : goal.returns-then-covers-from-clause-ids
returns-then-covers-from-clause-ids g c said =
    let state = (g.H.Shelf.seen c.args.store.now.shelf.now).told in
    let kinds = store_kinds c.args.store.now in
    let covers = c.args.cache.covers in
    let ids = c.args.cache.ids in
    fails_at state kinds covers c.args.end ids (omega (arith, c.if-covers-from.true, c.from.ensures)) (fails_said state kinds covers ids (c.requires.fits c.requires.open) said)

pub returns-then-covers-from-clause-time : goal.returns-then-covers-from-clause-time
returns-then-covers-from-clause-time g c = costs_nothing _ c.args.cache.covers c.args.end _ _ (omega arith) (omega (arith, c.if-covers-from.true, c.from.ensures))

pub returns-in_err-put_all-clause-time : goal.returns-in_err-put_all-clause-time
returns-in_err-put_all-clause-time g c =
    let covers = c.args.cache.covers in
    costs_up_to _ covers covers c.args.end _ _ c.requires.order (costs_nothing _ covers covers _ _ (omega arith) (omega arith))
