use Rattle.std.proofs.Common.{◌≡◌, ◌∙◌, ◌+◌, ◌-◌, None, Some, true, false, ap, sym, subst, arith, length, ℕ, Bool, IfSome}
use Rattle.std.specs.Prelude.{slice_get}
use Rattle.run_shelf.specs.Stores.{store_kinds, store_fault}
use Rattle.run_ledger.specs.SoFar.{FailsTo, CountsUpTo}
use Rattle.run_ledger.proofs.CachedLemmas.{SparesFailing, sound_failing_says}
use Rattle.run_ledger.proofs.RefreshLemmas.{begun_before, counts_before, full_alone, partial_behind, two_for_failing}
use Rattle.run_ledger.proofs.fresh_caches.failing_behind.Goals as goal

pub returns-in_err-earlier-clause-spares : goal.returns-in_err-earlier-clause-spares
returns-in_err-earlier-clause-spares g c =
    let state = (g.H.Shelf.seen c.args.store.now.shelf.now).told in
    let kinds = store_kinds c.args.store.now in
    let last_is : c.runs-last.result - 1 ≡ length kinds - 1 = ap (λ (n : ℕ). n - 1) c.runs-last.ensures in
    let before = g.H.Shelf.clock c.args.store.now.shelf.now in
    let now = g.H.Shelf.clock c.failing_to.new.store.shelf.now in
    two_for_failing state kinds (c.requires.fits c.requires.open) (length kinds - 1) before now (store_fault c.args.store.now ≡ None) c.requires.open
    (subst (λ (n : ℕ). IfSome state (SparesFailing (store_fault c.args.store.now ≡ None) n before now)) last_is c.in_err-earlier.ensures.spares)

pub returns-in_err-add_partial-clause-spares : goal.returns-in_err-add_partial-clause-spares
returns-in_err-add_partial-clause-spares g c =
    let state = (g.H.Shelf.seen c.args.store.now.shelf.now).told in
    let kinds = store_kinds c.args.store.now in
    let last_is : c.runs-last.result - 1 ≡ length kinds - 1 = ap (λ (n : ℕ). n - 1) c.runs-last.ensures in
    let before = g.H.Shelf.clock c.args.store.now.shelf.now in
    let now = g.H.Shelf.clock c.failing_to.new.store.shelf.now in
    two_for_failing state kinds (c.requires.fits c.requires.open) (length kinds - 1) before now (store_fault c.args.store.now ≡ None) c.requires.open
    (subst (λ (n : ℕ). IfSome state (SparesFailing (store_fault c.args.store.now ≡ None) n before now)) last_is c.in_ok-earlier.ensures.spares)

pub returns-in_ok-add_partial-clause-spares : goal.returns-in_ok-add_partial-clause-spares
returns-in_ok-add_partial-clause-spares g c =
    let state = (g.H.Shelf.seen c.args.store.now.shelf.now).told in
    let kinds = store_kinds c.args.store.now in
    let last_is : c.runs-last.result - 1 ≡ length kinds - 1 = ap (λ (n : ℕ). n - 1) c.runs-last.ensures in
    let before = g.H.Shelf.clock c.args.store.now.shelf.now in
    let now = g.H.Shelf.clock c.failing_to.new.store.shelf.now in
    two_for_failing state kinds (c.requires.fits c.requires.open) (length kinds - 1) before now (store_fault c.args.store.now ≡ None) c.requires.open
    (subst (λ (n : ℕ). IfSome state (SparesFailing (store_fault c.args.store.now ≡ None) n before now)) last_is c.in_ok-earlier.ensures.spares)

pub returns-in_ok-add_partial-clause-ids : goal.returns-in_ok-add_partial-clause-ids
returns-in_ok-add_partial-clause-ids g c filter_tags rows sums at sound =
    let state = (g.H.Shelf.seen c.args.store.now.shelf.now).told in
    let kinds = store_kinds c.args.store.now in
    let last = length kinds - 1 in
    let count : last + 1 ≡ length kinds = omega (arith, c.requires.some) in
    let last_is : c.runs-last.result - 1 ≡ last = ap (λ (n : ℕ). n - 1) c.runs-last.ensures in
    let kind : slice_get kinds last ≡ Some true = subst (λ (n : ℕ). slice_get kinds n ≡ Some c.partial.result) last_is c.partial.ensures ∙ ap (λ (b : Bool). Some b) c.if-partial.true in
    partial_behind state kinds last count rows (c.requires.fits c.requires.open) at kind c.in_ok-earlier.earlier c.in_ok-add_partial.field-0
    (subst (λ (n : ℕ). IfSome state (FailsTo kinds n c.in_ok-earlier.earlier)) last_is (c.in_ok-earlier.ensures.ids (sound_failing_says state (c.runs-last.result - 1) sound) (subst (λ (n : ℕ). IfSome state (CountsUpTo n)) (sym last_is) (counts_before state last rows at)))) (c.in_ok-add_partial.ensures filter_tags rows sums)

pub returns-in_ok-failing_ids-clause-ids : goal.returns-in_ok-failing_ids-clause-ids
returns-in_ok-failing_ids-clause-ids g c filter_tags rows sums at sound =
    let state = (g.H.Shelf.seen c.args.store.now.shelf.now).told in
    let kinds = store_kinds c.args.store.now in
    let last = length kinds - 1 in
    let count : last + 1 ≡ length kinds = omega (arith, c.requires.some) in
    let last_is : c.runs-last.result - 1 ≡ last = ap (λ (n : ℕ). n - 1) c.runs-last.ensures in
    let kind : slice_get kinds last ≡ Some false = subst (λ (n : ℕ). slice_get kinds n ≡ Some c.partial.result) last_is c.partial.ensures ∙ ap (λ (b : Bool). Some b) c.if-partial.false in
    full_alone state kinds last count rows (c.requires.fits c.requires.open) at kind c.in_ok-failing_ids.field-0 (c.in_ok-failing_ids.ensures filter_tags rows sums)

pub failing_to-requires-clause-begun : goal.failing_to-requires-clause-begun
failing_to-requires-clause-begun g c start begin =
    let kinds = store_kinds c.args.store.now in
    let count : (c.runs-last.result - 1) + 1 ≡ length kinds = omega (arith, c.requires.some, c.runs-last.ensures) in
    begun_before kinds (c.runs-last.result - 1) start count (c.partial.ensures ∙ ap (λ (b : Bool). Some b) c.if-partial.true) begin
