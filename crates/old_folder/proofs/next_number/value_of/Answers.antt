use Rattle.std.proofs.Common.{arith, refl, get_or}
use Rattle.old_folder.proofs.DigitLemmas.{room, one_more_digit}
use Rattle.old_folder.proofs.next_number.value_of.Goals as goal

pub overflow_mul-value : goal.overflow_mul-value
overflow_mul-value c = omega (arith, room c.args.digits.now c.loop-digit.digit-index c.requires.digits c.requires.few)

pub overflow_add-value : goal.overflow_add-value
overflow_add-value c = omega (arith, room c.args.digits.now c.loop-digit.digit-index c.requires.digits c.requires.few)

pub loop-digit-preserved : goal.loop-digit-preserved
loop-digit-preserved c =
    let step = one_more_digit c.args.digits.now c.loop-digit.digit-index (get_or c.args.digits.now c.loop-digit.digit-index 0) c.requires.digits c.loop-digit-test.true refl in
    omega (arith, step, c.from.ensures)
