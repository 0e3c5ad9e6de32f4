use Rattle.std.proofs.Common.{sym, subst, List, ℕ, Bool, Option, IfSome}
use Rattle.edge_io.specs.Disk.{Folder}
use Rattle.run_shelf.specs.Stores.{store_kinds}
use Rattle.run_shelf.proofs.ReadingLemmas.{same_state, reads_then}
use Rattle.run_ledger.specs.Costs.{ReadsTo}
use Rattle.run_ledger.specs.SoFar.{FailsTo}
use Rattle.run_ledger.proofs.CachedLemmas.{begins_at, begins_with}
use Rattle.run_ledger.proofs.ClosesLemmas.{done_telling, tells_again}
use Rattle.run_ledger.proofs.CostLemmas.{from_later, from_none}
use Rattle.run_ledger.proofs.LedgerLemmas.{fails_base}
use Rattle.run_ledger.proofs.failing_set.from_base.Goals as goal

pub returns-in_err-count-clause-reads : goal.returns-in_err-count-clause-reads
returns-in_err-count-clause-reads g c = tells_again _ _ _ _ c.in_err-count.ensures.reads c.from_residual.ensures.1

pub returns-in_err-count-clause-time : goal.returns-in_err-count-clause-time
returns-in_err-count-clause-time g c = from_none _ c.args.end _ _ c.in_err-count.ensures.time

pub returns-in_err-put_all-clause-time : goal.returns-in_err-put_all-clause-time
returns-in_err-put_all-clause-time g c = from_none _ c.args.end _ _ c.in_ok-count.ensures.time

pub returns-in_err-take_runs-clause-reads : goal.returns-in_err-take_runs-clause-reads
returns-in_err-take_runs-clause-reads g c =
    tells_again _ _ _ _ (reads_then _ _ _ _ _ (done_telling _ _ _ c.in_ok-count.ensures.reads) c.in_err-take_runs.ensures.reads) c.from_residual-in_err-take_runs.ensures.1

pub returns-in_err-take_runs-clause-time : goal.returns-in_err-take_runs-clause-time
returns-in_err-take_runs-clause-time g c =
    let read = done_telling _ _ _ c.in_ok-count.ensures.reads in
    let middle = g.H.Shelf.clock c.read_base.new.store.shelf.now in
    let now = g.H.Shelf.clock c.take_runs.new.store.shelf.now in
    from_later _ c.least.result c.args.end _ middle now c.in_ok-count.ensures.time
    (subst (λ (state : Option Folder). IfSome state (ReadsTo c.least.result c.args.end middle now)) (same_state _ _ read.same) c.in_err-take_runs.ensures.time)

pub returns-in_err-into_ids-clause-time : goal.returns-in_err-into_ids-clause-time
returns-in_err-into_ids-clause-time g c =
    let read = done_telling _ _ _ c.in_ok-count.ensures.reads in
    let middle = g.H.Shelf.clock c.read_base.new.store.shelf.now in
    let now = g.H.Shelf.clock c.take_runs.new.store.shelf.now in
    from_later _ c.least.result c.args.end _ middle now c.in_ok-count.ensures.time
    (subst (λ (state : Option Folder). IfSome state (ReadsTo c.least.result c.args.end middle now)) (same_state _ _ read.same) c.in_ok-take_runs.ensures.time)

pub returns-clause-time : goal.returns-clause-time
returns-clause-time g c =
    let read = done_telling _ _ _ c.in_ok-count.ensures.reads in
    let middle = g.H.Shelf.clock c.read_base.new.store.shelf.now in
    let now = g.H.Shelf.clock c.take_runs.new.store.shelf.now in
    from_later _ c.least.result c.args.end _ middle now c.in_ok-count.ensures.time
    (subst (λ (state : Option Folder). IfSome state (ReadsTo c.least.result c.args.end middle now)) (same_state _ _ read.same) c.in_ok-take_runs.ensures.time)

pub returns-clause-ids : goal.returns-clause-ids
returns-clause-ids g c counted =
    let read = done_telling _ _ _ c.in_ok-count.ensures.reads in
    let same = same_state _ _ read.same in
    let state = (g.H.Shelf.seen c.args.store.now.shelf.now).told in
    let later = (g.H.Shelf.seen c.read_base.new.store.shelf.now).told in
    let kinds = store_kinds c.args.store.now in
    let start = c.least.result in
    let set = c.put_all.new.self in
    let base = c.in_ok-count.field-0 in
    let found = c.in_ok-count.ensures.found in
    let begin : IfSome state (FailsTo kinds start set) =
    fails_base state kinds start set (begins_at state base start c.args.end c.least.ensures found counted) (begins_with state base c.new-failed.result set c.new-failed.ensures c.in_ok-put_all.ensures found) (c.requires.fits c.requires.open) in
    let there : IfSome later (FailsTo kinds start set) = subst (λ (o : Option Folder). IfSome o (FailsTo kinds start set)) (sym same) begin in
    let all = c.in_ok-take_runs.ensures.ids (subst (λ (l : List Bool). IfSome later (FailsTo l start set)) (sym read.kinds) there) in
    let failed = c.take_runs.new.failed in
    let back : IfSome state (FailsTo kinds c.args.end failed) =
    subst (λ (o : Option Folder). IfSome o (FailsTo kinds c.args.end failed)) same (subst (λ (l : List Bool). IfSome later (FailsTo l c.args.end failed)) read.kinds all) in
    subst (λ (l : List (List ℕ)). IfSome state (FailsTo kinds c.args.end l)) (sym c.in_ok-into_ids.ensures) back
