use Rattle.std.proofs.Common.{◌≡◌, ◌∙◌, ◌+◌, ◌-◌, ◌<◌, refl, sym, ap, arith, length}
use Rattle.run_shelf.specs.Stores.{store_kinds}
use Rattle.run_shelf.proofs.ReadingLemmas.{reads_then}
use Rattle.run_ledger.proofs.ClosesLemmas.{reads_nothing, done_telling, tells_again}
use Rattle.last_failures.proofs.RunLemmas.{nothing_looked, looks_at, looks_then, looks_done, costs_none, costs_one, costs_back}
use Rattle.last_failures.proofs.store_search.read_back.Goals as goal

pub loop-number-init : goal.loop-number-init
loop-number-init g c = record {
  high = omega (arith, c.runs-number.ensures);
  found = looks_at _ _ _ _ _ _ _ (sym c.runs-number.ensures) (nothing_looked _ c.args.packets (length (store_kinds c.args.store.now)) c.args.search.now);
  same_reference = refl;
  reads = reads_nothing _ c.requires.open c.requires.fits;
  time = costs_none _ _ _ _ refl;
}

pub take_run-requires-clause-known : goal.take_run-requires-clause-known
take_run-requires-clause-known g c = omega (arith, c.loop-number-test.true, c.loop-number.invariant.high, ap length c.loop-number.invariant.reads.kinds)

pub take_run-requires-clause-fits : goal.take_run-requires-clause-fits
take_run-requires-clause-fits g c = c.loop-number.invariant.reads.fits

pub take_run-requires-clause-open : goal.take_run-requires-clause-open
take_run-requires-clause-open g c = c.loop-number.invariant.reads.closes.1 ∙ c.requires.open

pub loop-number-preserved : goal.loop-number-preserved
loop-number-preserved g c =
    let before = c.loop-number.invariant in
    let step = c.in_ok-take_run.ensures in
    let next = c.loop-number.number - 1 in
    let one_less : c.loop-number.number ≡ next + 1 = omega (arith, c.loop-number-test.true) in
    let below : next < length (store_kinds c.args.store.now) = omega (arith, c.loop-number-test.true, before.high) in
    let fits = c.requires.fits c.requires.open in
    record {
      high = omega (arith, before.high);
      found = looks_then _ _ _ _ _ next _ _ _ _ before.reads.same (sym one_less) before.found step.found;
      same_reference = step.same_reference ∙ before.same_reference;
      reads = reads_then _ _ _ _ _ before.reads (done_telling _ _ _ step.reads);
      time = costs_one _ _ _ next _ _ _ _ one_less below fits before.reads.same before.time step.time;
    }

pub returns-then-is_done-clause-found : goal.returns-then-is_done-clause-found
returns-then-is_done-clause-found g c =
    let before = c.loop-number.invariant in
    looks_done _ _ _ _ c.loop-number.number _ _ _ (omega arith) before.high (c.requires.fits c.requires.open) (c.is_done.ensures c.if-is_done.true) before.found

pub returns-then-is_done-clause-time : goal.returns-then-is_done-clause-time
returns-then-is_done-clause-time g c = costs_back _ c.loop-number.number 0 _ _ (omega arith) c.loop-number.invariant.time

pub returns-in_err-take_run-clause-reads : goal.returns-in_err-take_run-clause-reads
returns-in_err-take_run-clause-reads g c =
    tells_again _ _ _ _ (reads_then _ _ _ _ _ c.loop-number.invariant.reads c.in_err-take_run.ensures.reads) c.from_residual.ensures.1

pub returns-in_err-take_run-clause-time : goal.returns-in_err-take_run-clause-time
returns-in_err-take_run-clause-time g c =
    let before = c.loop-number.invariant in
    let next = c.loop-number.number - 1 in
    let one_less : c.loop-number.number ≡ next + 1 = omega (arith, c.loop-number-test.true) in
    let below : next < length (store_kinds c.args.store.now) = omega (arith, c.loop-number-test.true, before.high) in
    costs_back _ next 0 _ _ (omega arith) (costs_one _ _ _ next _ _ _ _ one_less below (c.requires.fits c.requires.open) before.reads.same before.time c.in_err-take_run.ensures.time)

pub returns-clause-found : goal.returns-clause-found
returns-clause-found g c = looks_at _ _ _ c.loop-number.number _ _ _ (omega (arith, c.loop-number-test.false)) c.loop-number.invariant.found

pub returns-clause-time : goal.returns-clause-time
returns-clause-time g c = costs_back _ c.loop-number.number 0 _ _ (omega arith) c.loop-number.invariant.time
