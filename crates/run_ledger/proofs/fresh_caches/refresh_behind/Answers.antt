use Rattle.std.proofs.Common.{◌∙◌, ◌-◌, length}
use Rattle.run_shelf.specs.Stores.{store_kinds}
use Rattle.run_shelf.proofs.ReadingLemmas.{same_state}
use Rattle.run_ledger.specs.Ledger.{HasNewRows}
use Rattle.run_ledger.specs.Refreshing.{AreFolds}
use Rattle.run_ledger.proofs.ClosesLemmas.{done_telling, tells_again}
use Rattle.run_ledger.proofs.RefreshLemmas.{puts_where, sound_where}
use Rattle.run_ledger.proofs.fresh_caches.refresh_behind.Goals as goal

pub returns-in_err-ids-clause-closes : goal.returns-in_err-ids-clause-closes
returns-in_err-ids-clause-closes g c = (tells_again _ _ _ _ c.in_err-ids.ensures.reads c.from_residual.ensures.1).closes

pub put_caches-requires-clause-open : goal.put_caches-requires-clause-open
put_caches-requires-clause-open g c =
    let read = done_telling _ _ _ c.in_ok-ids.ensures.reads in
    read.closes.1 ∙ read.closes.0

pub returns-clause-refreshed : goal.returns-clause-refreshed
returns-clause-refreshed g c filter_tags rows sums =
    let read = done_telling _ _ _ c.in_ok-ids.ensures.reads in
    let kinds = store_kinds c.args.store.now in
    puts_where c.put_caches.result _ _ _ (same_state _ _ read.same) (HasNewRows (length kinds - 1) rows) (AreFolds c.in_ok-ids.field-0.ids c.in_ok-ids.field-0.times) (c.in_ok-ids.ensures.folds filter_tags rows sums) c.put_caches.ensures.put

pub returns-clause-sound : goal.returns-clause-sound
returns-clause-sound g c filter_tags rows sums =
    let read = done_telling _ _ _ c.in_ok-ids.ensures.reads in
    let kinds = store_kinds c.args.store.now in
    sound_where _ _ _ (same_state _ _ read.same) (HasNewRows (length kinds - 1) rows) (AreFolds c.in_ok-ids.field-0.ids c.in_ok-ids.field-0.times) kinds (c.requires.fits read.closes.0) (c.in_ok-ids.ensures.folds filter_tags rows sums) c.put_caches.ensures.sound
