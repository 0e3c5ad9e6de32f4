use Rattle.std.proofs.Common.{◌≡◌, sym, subst, arith, length, List, ℕ}
use Rattle.std.proofs.lemmas.Result.{on_ok_weaker}
use Rattle.std.specs.List.Sorted.{IsStrictlySortedBy}
use Rattle.outcome_fold.specs.Order.{text_cmp}
use Rattle.run_shelf.specs.declared.cache_file.CacheFile.TheVariants.{Failing, Times}
use Rattle.run_shelf.specs.Stores.{store_kinds}
use Rattle.run_ledger.specs.Caches.{IsFailingCache, IsTimesCache}
use Rattle.run_ledger.proofs.RefreshLemmas.{put_passes, goes_first_sound, goes_both_keep, goes_caches, goes_both_pass, goes_both_sound}
use Rattle.run_ledger.proofs.fresh_caches.put_caches.Goals as goal

pub returns-in_err-put_cache-clause-any_moment : goal.returns-in_err-put_cache-clause-any_moment
returns-in_err-put_cache-clause-any_moment g c = put_passes Failing c.bytes.result.now _ _ c.in_err-put_cache.ensures.any_moment

pub returns-in_err-put_cache-clause-sound : goal.returns-in_err-put_cache-clause-sound
returns-in_err-put_cache-clause-sound g c =
    let kinds = store_kinds c.args.store.now in
    let covers = c.from-covers.result in
    let all : covers ≡ length kinds = omega (arith, c.from-covers.ensures, c.runs.ensures) in
    let failing : IsStrictlySortedBy text_cmp c.args.ids → IsFailingCache c.bytes.result.now covers c.args.ids =
    λ ordered. subst (λ (l : List ℕ). IsFailingCache l covers c.args.ids) (sym c.bytes.ensures) (c.in_ok-failing.ensures.form ordered) in
    goes_first_sound kinds covers all c.args.ids c.args.times c.bytes.result.now _ failing c.in_ok-latest.ensures.form _ _ (c.requires.fits c.requires.open) c.in_err-put_cache.ensures.any_moment

pub returns-clause-put : goal.returns-clause-put
returns-clause-put g c =
    let kinds = store_kinds c.args.store.now in
    let covers = c.from-covers.result in
    let all : covers ≡ length kinds = omega (arith, c.from-covers.ensures, c.runs.ensures) in
    let failing : IsStrictlySortedBy text_cmp c.args.ids → IsFailingCache c.bytes.result.now covers c.args.ids =
    λ ordered. subst (λ (l : List ℕ). IsFailingCache l covers c.args.ids) (sym c.bytes.ensures) (c.in_ok-failing.ensures.form ordered) in
    let timed : IsTimesCache c.bytes-2.result.now covers c.args.times = subst (λ (l : List ℕ). IsTimesCache l covers c.args.times) (sym c.bytes-2.ensures) c.in_ok-latest.ensures.form in
    on_ok_weaker c.put_cache-2.result
    (λ second. goes_caches kinds covers all c.args.ids c.args.times c.bytes.result.now c.bytes-2.result.now failing timed _ _ (c.requires.fits c.requires.open) _ c.in_ok-put_cache.ensures.kept second)
    c.put_cache-2.ensures.kept

pub returns-clause-others : goal.returns-clause-others
returns-clause-others g c =
    let kinds = store_kinds c.args.store.now in
    let covers = c.from-covers.result in
    let all : covers ≡ length kinds = omega (arith, c.from-covers.ensures, c.runs.ensures) in
    let failing : IsStrictlySortedBy text_cmp c.args.ids → IsFailingCache c.bytes.result.now covers c.args.ids =
    λ ordered. subst (λ (l : List ℕ). IsFailingCache l covers c.args.ids) (sym c.bytes.ensures) (c.in_ok-failing.ensures.form ordered) in
    goes_both_keep kinds covers all c.args.ids c.args.times c.bytes.result.now _ failing c.in_ok-latest.ensures.form _ _ (c.requires.fits c.requires.open) _ c.in_ok-put_cache.ensures.kept c.put_cache-2.ensures.others

pub returns-clause-any_moment : goal.returns-clause-any_moment
returns-clause-any_moment g c =
    let kinds = store_kinds c.args.store.now in
    let covers = c.from-covers.result in
    let all : covers ≡ length kinds = omega (arith, c.from-covers.ensures, c.runs.ensures) in
    let failing : IsStrictlySortedBy text_cmp c.args.ids → IsFailingCache c.bytes.result.now covers c.args.ids =
    λ ordered. subst (λ (l : List ℕ). IsFailingCache l covers c.args.ids) (sym c.bytes.ensures) (c.in_ok-failing.ensures.form ordered) in
    goes_both_pass kinds covers all c.args.ids c.args.times c.bytes.result.now _ failing c.in_ok-latest.ensures.form _ _ (c.requires.fits c.requires.open) _ c.in_ok-put_cache.ensures.kept c.in_ok-put_cache.ensures.any_moment
    (put_passes Times c.bytes-2.result.now _ _ c.put_cache-2.ensures.any_moment)

pub returns-clause-sound : goal.returns-clause-sound
returns-clause-sound g c =
    let kinds = store_kinds c.args.store.now in
    let covers = c.from-covers.result in
    let all : covers ≡ length kinds = omega (arith, c.from-covers.ensures, c.runs.ensures) in
    let failing : IsStrictlySortedBy text_cmp c.args.ids → IsFailingCache c.bytes.result.now covers c.args.ids =
    λ ordered. subst (λ (l : List ℕ). IsFailingCache l covers c.args.ids) (sym c.bytes.ensures) (c.in_ok-failing.ensures.form ordered) in
    let timed : IsTimesCache c.bytes-2.result.now covers c.args.times = subst (λ (l : List ℕ). IsTimesCache l covers c.args.times) (sym c.bytes-2.ensures) c.in_ok-latest.ensures.form in
    goes_both_sound kinds covers all c.args.ids c.args.times c.bytes.result.now c.bytes-2.result.now failing timed _ _ (c.requires.fits c.requires.open) _ c.in_ok-put_cache.ensures.kept c.in_ok-put_cache.ensures.any_moment c.put_cache-2.ensures.any_moment
