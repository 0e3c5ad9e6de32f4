use Rattle.std.proofs.Common.{◌≡◌, None, ◌∙◌, sym, ap, subst, arith, length, Option, IfSome, IfOk}
use Rattle.edge_io.specs.Disk.{Folder}
use Rattle.run_shelf.specs.Stores.{store_fault}
use Rattle.run_shelf.proofs.ReadingLemmas.{same_state}
use Rattle.run_ledger.specs.Caches.{SaidOfFirst}
use Rattle.run_ledger.specs.Costs.{ReadsTo}
use Rattle.run_ledger.specs.Ledger.{times_after}
use Rattle.run_ledger.specs.SoFar.{SaysTo}
use Rattle.run_ledger.proofs.CachedLemmas.{cache_and_runs, with_times, too_many_times, lacks_times, held_times_said}
use Rattle.run_ledger.proofs.ClosesLemmas.{done_telling, tells_again}
use Rattle.run_ledger.proofs.cached_times.times_to.Goals as goal
use Rattle.run_ledger.proofs.cached_times.times_to.Goals.{in-Some+else-cache-from, in_default}

pub returns-in_err-cache-clause-reads : goal.returns-in_err-cache-clause-reads
returns-in_err-cache-clause-reads g c = tells_again _ _ _ _ c.in_err-cache.ensures.reads c.from_residual.ensures.1

pub go_on-requires-clause-open : goal.go_on-requires-clause-open
go_on-requires-clause-open g c =
    let read = done_telling _ _ _ c.in_ok-cache.ensures.reads in
    read.closes.1 ∙ read.closes.0

pub go_on-requires-clause-few : goal.go_on-requires-clause-few
go_on-requires-clause-few g c = omega (arith, c.requires.few, ap length (done_telling _ _ _ c.in_ok-cache.ensures.reads).kinds)

pub times_afresh-requires-clause-open : goal.times_afresh-requires-clause-open
times_afresh-requires-clause-open g c =
    let read = done_telling _ _ _ c.in_ok-cache.ensures.reads in
    read.closes.1 ∙ read.closes.0

pub times_afresh-requires-clause-few : goal.times_afresh-requires-clause-few
times_afresh-requires-clause-few g c = omega (arith, c.requires.few, ap length (done_telling _ _ _ c.in_ok-cache.ensures.reads).kinds)

pub returns-then-cache-from-clause-times : goal.returns-then-cache-from-clause-times
returns-then-cache-from-clause-times g c sound =
    let read = done_telling _ _ _ c.in_ok-cache.ensures.reads in
    let same = same_state _ _ read.same in
    let covers = c.in-Some.cache.covers in
    let times = c.in-Some.cache.times in
    let said = held_times_said _ covers c.args.end times (omega (arith, c.if-cache-from.true, c.from.ensures)) sound (rw c.in-Some.is at c.in_ok-cache.ensures.some) in
    subst (λ (state : Option Folder). IfOk c.go_on.result (λ found. IfSome state (SaysTo times_after c.args.end found))) same
    (c.go_on.ensures.times (subst (λ (state : Option Folder). IfSome state (λ s. SaidOfFirst times_after s.disk.published covers times)) (sym same) said))

pub returns-then-cache-from-clause-spares : goal.returns-then-cache-from-clause-spares
returns-then-cache-from-clause-spares g c =
    let read = done_telling _ _ _ c.in_ok-cache.ensures.reads in
    let middle = g.H.Shelf.clock c.read_cache.new.store.shelf.now in
    let now = g.H.Shelf.clock c.go_on.new.store.shelf.now in
    let covers = c.in-Some.cache.covers in
    with_times (store_fault c.args.store.now ≡ None) c.args.end (g.H.Shelf.clock c.args.store.now.shelf.now) middle now c.in_ok-cache.ensures.time _ covers c.in-Some.cache.times (rw c.in-Some.is at c.in_ok-cache.ensures.some)
    (subst (λ (state : Option Folder). IfSome state (ReadsTo covers c.args.end middle now)) (same_state _ _ read.same) c.go_on.ensures.time)

pub returns-then-cache-from-clause-time : goal.returns-then-cache-from-clause-time
returns-then-cache-from-clause-time g c =
    let read = done_telling _ _ _ c.in_ok-cache.ensures.reads in
    let middle = g.H.Shelf.clock c.read_cache.new.store.shelf.now in
    let now = g.H.Shelf.clock c.go_on.new.store.shelf.now in
    let covers = c.in-Some.cache.covers in
    cache_and_runs _ covers 0 c.args.end (g.H.Shelf.clock c.args.store.now.shelf.now) middle now (omega arith) c.in_ok-cache.ensures.time
    (subst (λ (state : Option Folder). IfSome state (ReadsTo covers c.args.end middle now)) (same_state _ _ read.same) c.go_on.ensures.time)

pub returns-clause-times : goal.returns-clause-times
returns-clause-times g c sound =
    let read = done_telling _ _ _ c.in_ok-cache.ensures.reads in
    subst (λ (state : Option Folder). IfOk c.times_afresh.result (λ found. IfSome state (SaysTo times_after c.args.end found))) (same_state _ _ read.same) c.times_afresh.ensures.times

pub returns-clause-time : goal.returns-clause-time
returns-clause-time g c =
    let read = done_telling _ _ _ c.in_ok-cache.ensures.reads in
    let middle = g.H.Shelf.clock c.read_cache.new.store.shelf.now in
    let now = g.H.Shelf.clock c.times_afresh.new.store.shelf.now in
    cache_and_runs _ 0 0 c.args.end (g.H.Shelf.clock c.args.store.now.shelf.now) middle now (omega arith) c.in_ok-cache.ensures.time
    (subst (λ (state : Option Folder). IfSome state (ReadsTo 0 c.args.end middle now)) (same_state _ _ read.same) c.times_afresh.ensures.time)

pub returns-clause-spares : goal.returns-clause-spares
returns-clause-spares g c =
    let read = done_telling _ _ _ c.in_ok-cache.ensures.reads in
    let before = g.H.Shelf.clock c.args.store.now.shelf.now in
    let middle = g.H.Shelf.clock c.read_cache.new.store.shelf.now in
    let now = g.H.Shelf.clock c.times_afresh.new.store.shelf.now in
    let told = (g.H.Shelf.seen c.args.store.now.shelf.now).told in
    elim c.match-branch-2.branch [
      | in-Some+else-cache-from w ↦
          too_many_times (store_fault c.args.store.now ≡ None) c.args.end before middle now c.in_ok-cache.ensures.time read.closes.0 told w.in-Some.cache.covers w.in-Some.cache.times
          (rw w.in-Some.is at c.in_ok-cache.ensures.some)
          (λ few. omega (arith, few, w.if-cache-from.false, w.from.ensures))
      | in_default w ↦ lacks_times (store_fault c.args.store.now ≡ None) c.args.end before middle now c.in_ok-cache.ensures.time told (rw w.in_default.is at c.in_ok-cache.ensures.none)
    ]
