use Rattle.std.proofs.Common.{◌≡◌, ◌≤◌, None, ℕ, List, length, IfSome, arith, subst}
use Rattle.run_shelf.specs.Stores.{store_kinds, store_fault}
use Rattle.run_ledger.specs.Cached.{SaysItsFailing}
use Rattle.run_ledger.specs.Ledger.{IsFailingSet}
use Rattle.run_ledger.specs.SoFar.{FailsTo, CountsUpTo}
use Rattle.run_ledger.proofs.CachedLemmas.{SparesFailing, all_spared, all_behind, all_behind_full, sound_failing_says}
use Rattle.run_ledger.proofs.ClosesLemmas.{if_done}
use Rattle.run_ledger.proofs.CostLemmas.{starts_within}
use Rattle.run_ledger.proofs.LedgerLemmas.{fails_all, counts_all, when_counted}
use Rattle.run_ledger.proofs.cached_failing.failing.Goals as goal

pub failing_to-requires-clause-begun : goal.failing_to-requires-clause-begun
failing_to-requires-clause-begun g c start begin = omega (arith, c.runs-end.ensures, starts_within _ start begin)

pub returns-clause-ids : goal.returns-clause-ids
returns-clause-ids g c sound =
    let state = (g.H.Shelf.seen c.args.store.now.shelf.now).told in
    let kinds = store_kinds c.args.store.now in
    let all : length kinds ≤ c.runs-end.result = omega (arith, c.runs-end.ensures) in
    if_done (λ (ids : List (List ℕ)). IfSome state (CountsUpTo c.runs-end.result) → IfSome state (FailsTo kinds c.runs-end.result ids)) (λ (ids : List (List ℕ)). IfSome state (IsFailingSet ids)) c.failing_to.result _ _ c.failing_to.ensures.reads.closes
    (when_counted c.failing_to.result (IfSome state (CountsUpTo c.runs-end.result)) (λ (ids : List (List ℕ)). IfSome state (FailsTo kinds c.runs-end.result ids)) (c.failing_to.ensures.ids (sound_failing_says state c.runs-end.result sound)))
    (λ open_still ids fails. fails_all state kinds c.runs-end.result ids all (c.requires.fits open_still) (fails (counts_all state kinds c.runs-end.result all (c.requires.fits open_still))))

pub returns-clause-ids_where_few : goal.returns-clause-ids_where_few
returns-clause-ids_where_few g c says =
    let state = (g.H.Shelf.seen c.args.store.now.shelf.now).told in
    let kinds = store_kinds c.args.store.now in
    let end : length kinds ≡ c.runs-end.result = omega (arith, c.runs-end.ensures) in
    let all : length kinds ≤ c.runs-end.result = omega (arith, c.runs-end.ensures) in
    if_done (λ (ids : List (List ℕ)). IfSome state (CountsUpTo c.runs-end.result) → IfSome state (FailsTo kinds c.runs-end.result ids)) (λ (ids : List (List ℕ)). IfSome state (IsFailingSet ids)) c.failing_to.result _ _ c.failing_to.ensures.reads.closes
    (when_counted c.failing_to.result (IfSome state (CountsUpTo c.runs-end.result)) (λ (ids : List (List ℕ)). IfSome state (FailsTo kinds c.runs-end.result ids)) (c.failing_to.ensures.ids (subst (λ (n : ℕ). IfSome state (SaysItsFailing n)) end says)))
    (λ open_still ids fails. fails_all state kinds c.runs-end.result ids all (c.requires.fits open_still) (fails (counts_all state kinds c.runs-end.result all (c.requires.fits open_still))))

pub returns-clause-spares : goal.returns-clause-spares
returns-clause-spares g c sound =
    let state = (g.H.Shelf.seen c.args.store.now.shelf.now).told in
    let kinds = store_kinds c.args.store.now in
    let before = g.H.Shelf.clock c.args.store.now.shelf.now in
    let now = g.H.Shelf.clock c.failing_to.new.store.shelf.now in
    let end : c.runs-end.result ≡ length kinds = omega (arith, c.runs-end.ensures) in
    all_spared state kinds (store_fault c.args.store.now ≡ None) before now c.requires.fits sound
    (subst (λ (n : ℕ). IfSome state (SparesFailing (store_fault c.args.store.now ≡ None) n before now)) end c.failing_to.ensures.spares)

pub returns-clause-full : goal.returns-clause-full
returns-clause-full g c = all_behind_full _ _ c.runs-end.result _ _ c.failing_to.ensures.full

pub returns-clause-time : goal.returns-clause-time
returns-clause-time g c = all_behind _ _ c.runs-end.result _ _ c.failing_to.ensures.time
