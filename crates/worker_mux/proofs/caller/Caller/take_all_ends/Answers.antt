use Rattle.std.proofs.Common.{rules}
use Rattle.worker_mux.proofs.Adding.{goes_then}
use Rattle.worker_mux.proofs.caller.Caller.take_all_ends.Goals as goal

pub loop-preserved-then-not-take_one : goal.loop-preserved-then-not-take_one
loop-preserved-then-not-take_one g c = record {
  ready = c.take_one.ensures.ready;
  loan = search rules;
  goes = goes_then _ _ _ _ _ _ c.loop.invariant.goes c.take_one.ensures.goes;
  settled = search rules;
}

pub loop-preserved : goal.loop-preserved
loop-preserved g c = record {
  ready = c.take_one.ensures.ready;
  loan = search rules;
  goes = goes_then _ _ _ _ _ _ c.loop.invariant.goes c.take_one.ensures.goes;
  settled = search rules;
}
