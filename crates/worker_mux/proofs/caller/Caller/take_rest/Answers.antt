use Rattle.std.proofs.Common.{rules}
use Rattle.worker_mux.proofs.Adding.{goes_then}
use Rattle.worker_mux.proofs.caller.Caller.take_rest.Goals as goal

pub returns-then-not-take_one-clause-goes : goal.returns-then-not-take_one-clause-goes
returns-then-not-take_one-clause-goes g c = goes_then _ _ _ _ _ _ c.loop.invariant.goes c.take_one.ensures.goes

pub loop-preserved : goal.loop-preserved
loop-preserved g c = record {
  ready = c.take_one.ensures.ready;
  loan = search rules;
  goes = goes_then _ _ _ _ _ _ c.loop.invariant.goes c.take_one.ensures.goes;
  settled = search rules;
}
