use Rattle.std.proofs.Common.{◌∙◌, ◌<◌, refl, ap, arith, length}
use Rattle.run_shelf.specs.Stores.{store_kinds}
use Rattle.run_shelf.proofs.ReadingLemmas.{reads_then}
use Rattle.run_ledger.proofs.ClosesLemmas.{reads_nothing, done_telling, tells_again}
use Rattle.run_ledger.proofs.CostLemmas.{costs_nothing, costs_more, costs_up_to}
use Rattle.run_ledger.proofs.LedgerLemmas.{fails_more, fails_at}
use Rattle.run_ledger.proofs.failing_set.take_runs.Goals as goal

pub loop-number-init : goal.loop-number-init
loop-number-init g c = record {
  bound = c.requires.order;
  ids = λ begin. begin;
  same_reference = refl;
  reads = reads_nothing _ c.requires.open c.requires.fits;
  time = costs_nothing _ c.args.start _ _ _ refl refl;
}

pub rows_of-requires-clause-known : goal.rows_of-requires-clause-known
rows_of-requires-clause-known g c = omega (arith, c.loop-number-test.true, c.requires.few, ap length c.loop-number.invariant.reads.kinds)

pub rows_of-requires-clause-fits : goal.rows_of-requires-clause-fits
rows_of-requires-clause-fits g c = c.loop-number.invariant.reads.fits

pub loop-number-preserved : goal.loop-number-preserved
loop-number-preserved g c =
    let before = c.loop-number.invariant in
    let step = c.in_ok-rows.ensures in
    let below : c.loop-number.number < length (store_kinds c.args.store.now) = omega (arith, c.loop-number-test.true, c.requires.few) in
    let fits = c.requires.fits c.requires.open in
    record {
      bound = omega (arith, c.loop-number-test.true);
      ids = λ begin. fails_more _ _ _ _ _ _ _ c.in_ok-rows.rows _ _ refl below
          (step.reads.kinds ∙ before.reads.kinds) c.partial.ensures fits before.reads.same step.rows c.in_ok-take_run.ensures (before.ids begin);
      same_reference = step.same_reference ∙ before.same_reference;
      reads = reads_then _ _ _ _ _ before.reads (done_telling _ _ _ step.reads);
      time = costs_more _ _ _ c.args.start _ _ _ _ fits below before.time before.reads.same step.time _ refl;
    }

pub returns-in_err-rows-clause-reads : goal.returns-in_err-rows-clause-reads
returns-in_err-rows-clause-reads g c =
    tells_again _ _ _ _ (reads_then _ _ _ _ _ c.loop-number.invariant.reads c.in_err-rows.ensures.reads) c.from_residual.ensures.1

pub returns-in_err-rows-clause-time : goal.returns-in_err-rows-clause-time
returns-in_err-rows-clause-time g c =
    let before = c.loop-number.invariant in
    let below : c.loop-number.number < length (store_kinds c.args.store.now) = omega (arith, c.loop-number-test.true, c.requires.few) in
    costs_up_to _ c.args.start _ c.args.end _ _ (omega (arith, c.loop-number-test.true)) (costs_more _ _ _ c.args.start _ _ _ _ (c.requires.fits c.requires.open) below before.time before.reads.same c.in_err-rows.ensures.time _ refl)

pub returns-in_err-take_run-clause-time : goal.returns-in_err-take_run-clause-time
returns-in_err-take_run-clause-time g c =
    let before = c.loop-number.invariant in
    let below : c.loop-number.number < length (store_kinds c.args.store.now) = omega (arith, c.loop-number-test.true, c.requires.few) in
    costs_up_to _ c.args.start _ c.args.end _ _ (omega (arith, c.loop-number-test.true)) (costs_more _ _ _ c.args.start _ _ _ _ (c.requires.fits c.requires.open) below before.time before.reads.same c.in_ok-rows.ensures.time _ refl)

pub returns-clause-ids : goal.returns-clause-ids
returns-clause-ids g c begin =
    fails_at _ _ c.loop-number.number c.args.end _ (omega (arith, c.loop-number-test.false, c.loop-number.invariant.bound)) (c.loop-number.invariant.ids begin)

pub returns-clause-time : goal.returns-clause-time
returns-clause-time g c = costs_up_to _ c.args.start _ c.args.end _ _ c.loop-number.invariant.bound c.loop-number.invariant.time
