use Rattle.std.proofs.Common.{Option, IfSome, ℕ, subst, arith}
use Rattle.std.proofs.lemmas.Grind.{common_steps}
use Rattle.std.proofs.lemmas.List.Elements.{All-more}
use Rattle.run_ledger.specs.Caches.{IsTimed}
use Rattle.run_ledger.specs.Cuts.{IsTimedAt}
use Rattle.run_ledger.proofs.times_cache.write_times.Goals as goal

pub loop-id-preserved : goal.loop-id-preserved
loop-id-preserved c = record {
  bytes = grind (arith, common_steps);
  timed = All-more (IsTimedAt c.args.times.now) c.args.ids.now c.loop-id.id-index c.id-item.result c.loop-id-test.true c.loop-id.invariant.timed
      (subst (IsTimedAt c.args.times.now) c.id-item.is (subst (λ (o : Option ℕ). IfSome o (λ nanos. IsTimed (c.id-item.result, nanos))) c.get.ensures c.in_ok-write_time.ensures.timed));
}
