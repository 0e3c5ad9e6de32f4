use Rattle.std.proofs.Common.{arith, refl, get_or}
use Rattle.std.specs.Char.{digit_value}
use Rattle.v1_bridge.proofs.SizeLemmas.{few_are, one_more_digit, room}
use Rattle.v1_bridge.proofs.chunk_size.value_of.Goals as goal

pub overflow_mul-value : goal.overflow_mul-value
overflow_mul-value c =
    let few = few_are c.args.digits.now c.requires in
    omega (arith, room c.args.digits.now c.loop-digit.digit-index (digit_value (get_or c.args.digits.now c.loop-digit.digit-index 0)) few.1 few.0 c.loop-digit-test.true refl, c.loop-digit.invariant)

pub overflow_add-value : goal.overflow_add-value
overflow_add-value c =
    let few = few_are c.args.digits.now c.requires in
    omega (arith, room c.args.digits.now c.loop-digit.digit-index c.value_of_digit.result few.1 few.0 c.loop-digit-test.true c.value_of_digit.ensures.value, c.loop-digit.invariant)

pub loop-digit-preserved : goal.loop-digit-preserved
loop-digit-preserved c =
    let step = one_more_digit c.args.digits.now c.loop-digit.digit-index c.value_of_digit.result c.loop-digit-test.true c.value_of_digit.ensures.value in
    omega (arith, step, c.loop-digit.invariant)
