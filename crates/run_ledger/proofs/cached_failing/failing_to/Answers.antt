use Rattle.std.proofs.Common.{◌≡◌, ◌+◌, None, ◌∙◌, sym, subst, length, ap, arith, Bool, List, Option, IfSome, IfOk}
use Rattle.std.proofs.lemmas.Bool.{both_ways}
use Rattle.edge_io.specs.Disk.{Folder}
use Rattle.run_shelf.specs.Stores.{store_kinds, store_fault}
use Rattle.run_shelf.proofs.ReadingLemmas.{same_state}
use Rattle.run_ledger.specs.Cached.{Spares}
use Rattle.run_ledger.specs.Caches.{FailingOfFirst}
use Rattle.run_ledger.specs.Costs.{ReadsTo}
use Rattle.run_ledger.specs.SoFar.{FailsTo, CountsUpTo}
use Rattle.run_ledger.specs.Starts.{IsStart}
use Rattle.run_ledger.proofs.CachedLemmas.{with_cache, with_cache_start, with_cache_full, unused_cache, lacks_cache, reads_without, reads_without_full, some_last, held_is_said, FromFull, FromStart}
use Rattle.run_ledger.proofs.ClosesLemmas.{done_telling, tells_again}
use Rattle.run_ledger.proofs.cached_failing.failing_to.Goals as goal
use Rattle.run_ledger.proofs.cached_failing.failing_to.Goals.{in-Some+else-spares, in_default}

pub returns-in_err-cache-clause-reads : goal.returns-in_err-cache-clause-reads
returns-in_err-cache-clause-reads g c = tells_again _ _ _ _ c.in_err-cache.ensures.reads c.from_residual.ensures.1

pub go_on-requires-clause-open : goal.go_on-requires-clause-open
go_on-requires-clause-open g c =
    let read = done_telling _ _ _ c.in_ok-cache.ensures.reads in
    read.closes.1 ∙ read.closes.0

pub go_on-requires-clause-few : goal.go_on-requires-clause-few
go_on-requires-clause-few g c = omega (arith, c.requires.few, ap length (done_telling _ _ _ c.in_ok-cache.ensures.reads).kinds)

pub failing_afresh-requires-clause-open : goal.failing_afresh-requires-clause-open
failing_afresh-requires-clause-open g c =
    let read = done_telling _ _ _ c.in_ok-cache.ensures.reads in
    read.closes.1 ∙ read.closes.0

pub failing_afresh-requires-clause-few : goal.failing_afresh-requires-clause-few
failing_afresh-requires-clause-few g c = omega (arith, c.requires.few, ap length (done_telling _ _ _ c.in_ok-cache.ensures.reads).kinds)

pub failing_afresh-requires-clause-begun : goal.failing_afresh-requires-clause-begun
failing_afresh-requires-clause-begun g c start begin =
    c.requires.begun start (subst (λ (kinds : List Bool). IsStart kinds start) (done_telling _ _ _ c.in_ok-cache.ensures.reads).kinds begin)

pub returns-then-spares-clause-spares : goal.returns-then-spares-clause-spares
returns-then-spares-clause-spares g c =
    let read = done_telling _ _ _ c.in_ok-cache.ensures.reads in
    let before = g.H.Shelf.clock c.args.store.now.shelf.now in
    let middle = g.H.Shelf.clock c.read_cache.new.store.shelf.now in
    let now = g.H.Shelf.clock c.go_on.new.store.shelf.now in
    let covers = c.in-Some.cache.covers in
    with_cache _ covers c.in-Some.cache.ids c.args.end before middle now (rw c.in-Some.is at c.in_ok-cache.ensures.some) c.in_ok-cache.ensures.time (store_fault c.args.store.now ≡ None)
    (subst (λ (state : Option Folder). IfSome state (ReadsTo covers c.args.end middle now)) (same_state _ _ read.same) c.go_on.ensures.time)

pub returns-then-spares-clause-time : goal.returns-then-spares-clause-time
returns-then-spares-clause-time g c =
    let read = done_telling _ _ _ c.in_ok-cache.ensures.reads in
    let before = g.H.Shelf.clock c.args.store.now.shelf.now in
    let middle = g.H.Shelf.clock c.read_cache.new.store.shelf.now in
    let now = g.H.Shelf.clock c.go_on.new.store.shelf.now in
    let covers = c.in-Some.cache.covers in
    with_cache_start _ covers c.in-Some.cache.ids c.args.end before middle now (rw c.in-Some.is at c.in_ok-cache.ensures.some) c.in_ok-cache.ensures.time (store_kinds c.args.store.now)
    (subst (λ (kinds : List Bool). Spares kinds c.args.end covers) read.kinds (c.spares.ensures.0 c.if-spares.true))
    (subst (λ (state : Option Folder). IfSome state (ReadsTo covers c.args.end middle now)) (same_state _ _ read.same) c.go_on.ensures.time)

pub returns-then-spares-clause-full : goal.returns-then-spares-clause-full
returns-then-spares-clause-full g c =
    let read = done_telling _ _ _ c.in_ok-cache.ensures.reads in
    let before = g.H.Shelf.clock c.args.store.now.shelf.now in
    let middle = g.H.Shelf.clock c.read_cache.new.store.shelf.now in
    let now = g.H.Shelf.clock c.go_on.new.store.shelf.now in
    let covers = c.in-Some.cache.covers in
    with_cache_full _ covers c.in-Some.cache.ids c.args.end before middle now (rw c.in-Some.is at c.in_ok-cache.ensures.some) c.in_ok-cache.ensures.time (store_kinds c.args.store.now)
    (subst (λ (kinds : List Bool). Spares kinds c.args.end covers) read.kinds (c.spares.ensures.0 c.if-spares.true))
    (subst (λ (state : Option Folder). IfSome state (ReadsTo covers c.args.end middle now)) (same_state _ _ read.same) c.go_on.ensures.time)

pub returns-then-spares-clause-ids : goal.returns-then-spares-clause-ids
returns-then-spares-clause-ids g c sound counted =
    let read = done_telling _ _ _ c.in_ok-cache.ensures.reads in
    let same = same_state _ _ read.same in
    let covers = c.in-Some.cache.covers in
    let ids = c.in-Some.cache.ids in
    let said = held_is_said _ covers c.args.end ids (c.spares.ensures.0 c.if-spares.true).few sound (rw c.in-Some.is at c.in_ok-cache.ensures.some) in
    let all = c.go_on.ensures.ids (subst (λ (state : Option Folder). IfSome state (λ s. FailingOfFirst s.disk.published covers ids)) (sym same) said) in
    subst (λ (state : Option Folder). IfOk c.go_on.result (λ found. IfSome state (FailsTo (store_kinds c.args.store.now) c.args.end found))) same
    (subst (λ (kinds : List Bool). IfOk c.go_on.result (λ found. IfSome (g.H.Shelf.seen c.read_cache.new.store.shelf.now).told (FailsTo kinds c.args.end found))) read.kinds all)

pub returns-clause-ids : goal.returns-clause-ids
returns-clause-ids g c sound counted =
    let read = done_telling _ _ _ c.in_ok-cache.ensures.reads in
    let later = subst (λ (state : Option Folder). IfSome state (CountsUpTo c.args.end)) (sym (same_state _ _ read.same)) counted in
    subst (λ (state : Option Folder). IfOk c.failing_afresh.result (λ found. IfSome state (FailsTo (store_kinds c.args.store.now) c.args.end found))) (same_state _ _ read.same)
    (subst (λ (kinds : List Bool). IfOk c.failing_afresh.result (λ found. IfSome (g.H.Shelf.seen c.read_cache.new.store.shelf.now).told (FailsTo kinds c.args.end found))) read.kinds (c.failing_afresh.ensures.ids later))

pub returns-clause-time : goal.returns-clause-time
returns-clause-time g c =
    let read = done_telling _ _ _ c.in_ok-cache.ensures.reads in
    let before = g.H.Shelf.clock c.args.store.now.shelf.now in
    let middle = g.H.Shelf.clock c.read_cache.new.store.shelf.now in
    let now = g.H.Shelf.clock c.failing_afresh.new.store.shelf.now in
    let kinds = store_kinds c.args.store.now in
    let told = (g.H.Shelf.seen c.args.store.now.shelf.now).told in
    reads_without kinds c.args.end before middle now c.in_ok-cache.ensures.time told
    (subst (λ (state : Option Folder). IfSome state (FromStart kinds (λ start. ReadsTo start c.args.end (middle + 3) now))) (same_state _ _ read.same)
    (subst (λ (l : List Bool). IfSome (g.H.Shelf.seen c.read_cache.new.store.shelf.now).told (FromStart l (λ start. ReadsTo start c.args.end (middle + 3) now))) read.kinds c.failing_afresh.ensures.time))

pub returns-clause-full : goal.returns-clause-full
returns-clause-full g c =
    let read = done_telling _ _ _ c.in_ok-cache.ensures.reads in
    let before = g.H.Shelf.clock c.args.store.now.shelf.now in
    let middle = g.H.Shelf.clock c.read_cache.new.store.shelf.now in
    let now = g.H.Shelf.clock c.failing_afresh.new.store.shelf.now in
    let kinds = store_kinds c.args.store.now in
    let told = (g.H.Shelf.seen c.args.store.now.shelf.now).told in
    reads_without_full kinds c.args.end before middle now c.in_ok-cache.ensures.time told
    (subst (λ (state : Option Folder). IfSome state (FromFull kinds (λ start. ReadsTo start c.args.end middle now))) (same_state _ _ read.same)
    (subst (λ (l : List Bool). IfSome (g.H.Shelf.seen c.read_cache.new.store.shelf.now).told (FromFull l (λ start. ReadsTo start c.args.end middle now))) read.kinds c.failing_afresh.ensures.full))

pub returns-clause-spares : goal.returns-clause-spares
returns-clause-spares g c =
    let read = done_telling _ _ _ c.in_ok-cache.ensures.reads in
    let before = g.H.Shelf.clock c.args.store.now.shelf.now in
    let middle = g.H.Shelf.clock c.read_cache.new.store.shelf.now in
    let now = g.H.Shelf.clock c.failing_afresh.new.store.shelf.now in
    let kinds = store_kinds c.args.store.now in
    let told = (g.H.Shelf.seen c.args.store.now.shelf.now).told in
    let end = c.args.end in
    let reads : IfSome told (FromFull kinds (λ start. ReadsTo start end middle now)) =
    subst (λ (state : Option Folder). IfSome state (FromFull kinds (λ start. ReadsTo start end middle now))) (same_state _ _ read.same)
    (subst (λ (l : List Bool). IfSome (g.H.Shelf.seen c.read_cache.new.store.shelf.now).told (FromFull l (λ start. ReadsTo start end middle now))) read.kinds c.failing_afresh.ensures.full) in
    elim c.match-branch-2.branch [
      | in-Some+else-spares w ↦
          unused_cache told w.in-Some.cache.covers w.in-Some.cache.ids end before middle now (rw w.in-Some.is at c.in_ok-cache.ensures.some) c.in_ok-cache.ensures.time (store_fault c.args.store.now ≡ None) read.closes.0 kinds (some_last kinds)
          (λ spares. both_ways w.spares.result w.if-spares.false (w.spares.ensures.1 (subst (λ (l : List Bool). Spares l end w.in-Some.cache.covers) (sym read.kinds) spares))) reads
      | in_default w ↦ lacks_cache kinds end before middle now c.in_ok-cache.ensures.time (store_fault c.args.store.now ≡ None) told (rw w.in_default.is at c.in_ok-cache.ensures.none)
    ]
