use Rattle.std.proofs.Common.{refl, arith, sym, ap, ◌∙◌}
use Rattle.std.specs.Ordering.{is_lt}
use Rattle.run_ledger.proofs.MergeLemmas.{skips_none, skips_more, skips_all}
use Rattle.run_ledger.proofs.merged_times.skip_below.Goals as goal

pub loop-first-init : goal.loop-first-init
loop-first-init c = record { skipped = λ each are. (each, are, refl); short = omega arith }

pub loop-first-preserved : goal.loop-first-preserved
loop-first-preserved c = record {
  skipped = λ each are. skips_more _ _ each (c.loop-first.invariant.skipped each are) c.in-Some.first.now c.in-Some.behind.now c.in-Some.ensures.some (ap is_lt (sym c.cmp.ensures) ∙ sym c.is_lt.ensures ∙ c.if-not-is_lt.false);
  short = omega (arith, c.loop-first.invariant.short, c.in-Some.ensures.short);
}

pub returns-then-not-is_lt-clause-rest : goal.returns-then-not-is_lt-clause-rest
returns-then-not-is_lt-clause-rest c each are = skips_all _ _ each (c.loop-first.invariant.skipped each are) c.in-Some.first.now c.in-Some.behind.now c.in-Some.ensures.some (ap is_lt (sym c.cmp.ensures) ∙ sym c.is_lt.ensures ∙ c.if-not-is_lt.true)

pub returns-clause-rest : goal.returns-clause-rest
returns-clause-rest c each are = skips_none _ _ each (c.loop-first.invariant.skipped each are) c.in_default.ensures.none
