use Rattle.std.proofs.Common.{◌≡◌, ◌+◌, subst, sym, ap, ◌∙◌, [], rules, refl}
use Rattle.crossbeam_queue.specs.Passes.{view}
use Rattle.worker_mux.specs.declared.knowledge.Knowledge.TheVariants.{Taker, Lane}
use Rattle.worker_mux.specs.Rule.{IsTaker, with_lane, new_lane}
use Rattle.worker_mux.specs.Passes.{IsFresh, number_of}
use Rattle.worker_mux.proofs.Steps.{begins}
use Rattle.worker_mux.proofs.Told.{adds_as, begins_empty}
use Rattle.worker_mux.proofs.Lists.{all_more, numbers_more}
use Rattle.worker_mux.proofs.belt.Belt.new.Goals as goal

pub ruled-requires-clause-rule : goal.ruled-requires-clause-rule
ruled-requires-clause-rule c = begins

pub another-requires-clause-rule : goal.another-requires-clause-rule
another-requires-clause-rule c = adds_as _ _ (subst IsTaker (sym c.loop-number.invariant.knows) refl)

pub loop-number-preserved : goal.loop-number-preserved
loop-number-preserved c =
    let taker : view c.another.new.pass ≡ Taker (c.loop-number.number + 1) [] [] = c.another.ensures.rule.0 ∙ ap with_lane c.loop-number.invariant.knows in
    let lane : view c.another.result ≡ Lane c.loop-number.number [] = c.another.ensures.rule.1 ∙ ap new_lane c.loop-number.invariant.knows in
    let empty = begins_empty _ _ lane in
    record {
      made_here = search rules;
      knows = taker;
      numbers = rw c.in_ok-push.ensures.items (numbers_more number_of c.loop-number.passes.items _ c.loop-number.number c.loop-number.invariant.numbers refl);
      fresh = rw c.in_ok-push.ensures.items (all_more (IsFresh _) c.loop-number.passes.items _ c.loop-number.invariant.fresh (record { ready = record { made_here = search rules; lane = empty.0 }; empty = empty.1 }));
    }
