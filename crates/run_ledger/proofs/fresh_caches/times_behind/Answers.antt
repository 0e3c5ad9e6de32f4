use Rattle.std.proofs.Common.{◌≡◌, ◌+◌, ◌-◌, None, ap, subst, arith, length, ℕ, IfSome}
use Rattle.run_shelf.specs.Stores.{store_kinds, store_fault}
use Rattle.run_ledger.specs.Ledger.{times_after}
use Rattle.run_ledger.specs.SoFar.{SaysTo}
use Rattle.run_ledger.proofs.CachedLemmas.{SparesTimes, sound_times_says}
use Rattle.run_ledger.proofs.RefreshLemmas.{times_behind_all, two_for_times}
use Rattle.run_ledger.proofs.fresh_caches.times_behind.Goals as goal

pub returns-in_err-latest-clause-spares : goal.returns-in_err-latest-clause-spares
returns-in_err-latest-clause-spares g c =
    let state = (g.H.Shelf.seen c.args.store.now.shelf.now).told in
    let kinds = store_kinds c.args.store.now in
    let last_is : c.runs-last.result - 1 ≡ length kinds - 1 = ap (λ (n : ℕ). n - 1) c.runs-last.ensures in
    let before = g.H.Shelf.clock c.args.store.now.shelf.now in
    let now = g.H.Shelf.clock c.times_to.new.store.shelf.now in
    two_for_times state kinds (c.requires.fits c.requires.open) (length kinds - 1) before now (store_fault c.args.store.now ≡ None) c.requires.open
    (subst (λ (n : ℕ). IfSome state (SparesTimes (store_fault c.args.store.now ≡ None) n before now)) last_is c.in_err-latest.ensures.spares)

pub returns-in_err-replace_summed-clause-spares : goal.returns-in_err-replace_summed-clause-spares
returns-in_err-replace_summed-clause-spares g c =
    let state = (g.H.Shelf.seen c.args.store.now.shelf.now).told in
    let kinds = store_kinds c.args.store.now in
    let last_is : c.runs-last.result - 1 ≡ length kinds - 1 = ap (λ (n : ℕ). n - 1) c.runs-last.ensures in
    let before = g.H.Shelf.clock c.args.store.now.shelf.now in
    let now = g.H.Shelf.clock c.times_to.new.store.shelf.now in
    two_for_times state kinds (c.requires.fits c.requires.open) (length kinds - 1) before now (store_fault c.args.store.now ≡ None) c.requires.open
    (subst (λ (n : ℕ). IfSome state (SparesTimes (store_fault c.args.store.now ≡ None) n before now)) last_is c.in_ok-latest.ensures.spares)

pub returns-clause-spares : goal.returns-clause-spares
returns-clause-spares g c =
    let state = (g.H.Shelf.seen c.args.store.now.shelf.now).told in
    let kinds = store_kinds c.args.store.now in
    let last_is : c.runs-last.result - 1 ≡ length kinds - 1 = ap (λ (n : ℕ). n - 1) c.runs-last.ensures in
    let before = g.H.Shelf.clock c.args.store.now.shelf.now in
    let now = g.H.Shelf.clock c.times_to.new.store.shelf.now in
    two_for_times state kinds (c.requires.fits c.requires.open) (length kinds - 1) before now (store_fault c.args.store.now ≡ None) c.requires.open
    (subst (λ (n : ℕ). IfSome state (SparesTimes (store_fault c.args.store.now ≡ None) n before now)) last_is c.in_ok-latest.ensures.spares)

pub returns-clause-times : goal.returns-clause-times
returns-clause-times g c filter_tags rows sums at sound =
    let state = (g.H.Shelf.seen c.args.store.now.shelf.now).told in
    let kinds = store_kinds c.args.store.now in
    let last = length kinds - 1 in
    let count : last + 1 ≡ length kinds = omega (arith, c.requires.some) in
    let last_is : c.runs-last.result - 1 ≡ last = ap (λ (n : ℕ). n - 1) c.runs-last.ensures in
    times_behind_all state kinds last count rows (c.requires.fits c.requires.open) at c.in_ok-latest.latest c.replace_summed.new.latest
    (subst (λ (n : ℕ). IfSome state (SaysTo times_after n c.in_ok-latest.latest)) last_is (c.in_ok-latest.ensures.times (sound_times_says state (c.runs-last.result - 1) sound))) (c.in_ok-replace_summed.ensures filter_tags rows sums)
