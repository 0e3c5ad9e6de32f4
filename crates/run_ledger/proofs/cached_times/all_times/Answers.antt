use Rattle.std.proofs.Common.{◌≡◌, ◌≤◌, None, ℕ, length, IfSome, arith, subst}
use Rattle.std.specs.FinMap.{FinMap}
use Rattle.outcome_fold.specs.Order.{text_cmp}
use Rattle.run_shelf.specs.Stores.{store_kinds, store_fault}
use Rattle.run_ledger.specs.Cached.{SaysItsTimes}
use Rattle.run_ledger.specs.Ledger.{times_after, AreTimes}
use Rattle.run_ledger.specs.SoFar.{SaysTo}
use Rattle.run_ledger.proofs.CachedLemmas.{SparesTimes, all_times_spared, all_times_behind, sound_times_says}
use Rattle.run_ledger.proofs.ClosesLemmas.{if_done}
use Rattle.run_ledger.proofs.LedgerLemmas.{says_all}
use Rattle.run_ledger.proofs.cached_times.all_times.Goals as goal

pub returns-clause-times : goal.returns-clause-times
returns-clause-times g c sound =
    let state = (g.H.Shelf.seen c.args.store.now.shelf.now).told in
    let kinds = store_kinds c.args.store.now in
    let all : length kinds ≤ c.runs-end.result = omega (arith, c.runs-end.ensures) in
    if_done (λ (times : FinMap text_cmp ℕ). IfSome state (SaysTo times_after c.runs-end.result times)) (λ (times : FinMap text_cmp ℕ). IfSome state (AreTimes times)) c.times_to.result _ _ c.times_to.ensures.reads.closes
    (c.times_to.ensures.times (sound_times_says state c.runs-end.result sound))
    (λ open_still times said. says_all times_after state kinds c.runs-end.result times all (c.requires.fits open_still) said)

pub returns-clause-times_where_few : goal.returns-clause-times_where_few
returns-clause-times_where_few g c says =
    let state = (g.H.Shelf.seen c.args.store.now.shelf.now).told in
    let kinds = store_kinds c.args.store.now in
    let end : length kinds ≡ c.runs-end.result = omega (arith, c.runs-end.ensures) in
    let all : length kinds ≤ c.runs-end.result = omega (arith, c.runs-end.ensures) in
    if_done (λ (times : FinMap text_cmp ℕ). IfSome state (SaysTo times_after c.runs-end.result times)) (λ (times : FinMap text_cmp ℕ). IfSome state (AreTimes times)) c.times_to.result _ _ c.times_to.ensures.reads.closes
    (c.times_to.ensures.times (subst (λ (n : ℕ). IfSome state (SaysItsTimes n)) end says))
    (λ open_still times said. says_all times_after state kinds c.runs-end.result times all (c.requires.fits open_still) said)

pub returns-clause-spares : goal.returns-clause-spares
returns-clause-spares g c sound =
    let state = (g.H.Shelf.seen c.args.store.now.shelf.now).told in
    let kinds = store_kinds c.args.store.now in
    let before = g.H.Shelf.clock c.args.store.now.shelf.now in
    let now = g.H.Shelf.clock c.times_to.new.store.shelf.now in
    let end : c.runs-end.result ≡ length kinds = omega (arith, c.runs-end.ensures) in
    all_times_spared state kinds (store_fault c.args.store.now ≡ None) before now c.requires.fits sound
    (subst (λ (n : ℕ). IfSome state (SparesTimes (store_fault c.args.store.now ≡ None) n before now)) end c.times_to.ensures.spares)

pub returns-clause-time : goal.returns-clause-time
returns-clause-time g c = all_times_behind _ c.runs-end.result _ _ c.times_to.ensures.time
