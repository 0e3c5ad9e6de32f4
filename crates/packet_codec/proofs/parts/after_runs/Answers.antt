use Rattle.packet_codec.proofs.ShapeLemmas.{runs_more, runs_stop}
use Rattle.packet_codec.proofs.parts.after_runs.Goals as goal

pub returns-in_err-after-clause-none : goal.returns-in_err-after-clause-none
returns-in_err-after-clause-none c = rw c.from_residual.ensures (runs_stop _ _ _ _ _ c.type_inv.bytes c.loop-test.true c.loop.invariant.1 c.in_err-after.ensures.none)

pub loop-preserved : goal.loop-preserved
loop-preserved c = (_, runs_more _ _ _ _ _ _ c.loop.invariant.1 c.in_ok-after.ensures.found)
