use Rattle.std.proofs.Common.{◌≡◌, refl, arith}
use Rattle.run_shelf.specs.Bases.{base_title}
use Rattle.run_shelf.proofs.IdFileLemmas.{one_number}
use Rattle.run_shelf.proofs.base_set.base_in.Goals as goal

pub returns-in_default-clause-none : goal.returns-in_default-clause-none
returns-in_default-clause-none c base is = (rw c.in_default.is at c.in_ok-number.ensures.none base_title refl) base.count base.ids is.file

pub returns-then-number-from-clause-none : goal.returns-then-number-from-clause-none
returns-then-number-from-clause-none c base is =
    let file = rw c.in-Some.is at c.in_ok-number.ensures.some base_title refl in
    let same : base.count ≡ c.in-Some.field-0.number = one_number base_title c.args.bytes.now c.in-Some.field-0.number base.count c.in-Some.field-0.ids base.ids file is.file in
    omega (arith, is.few, c.if-number-from.true, same)

pub returns-clause-some : goal.returns-clause-some
returns-clause-some c = record {
  file = rw c.in-Some.is at c.in_ok-number.ensures.some base_title refl;
  few = omega (arith, c.if-number-from.false);
}
