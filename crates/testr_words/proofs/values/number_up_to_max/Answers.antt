use Rattle.std.proofs.Common.{arith}
use Rattle.testr_words.proofs.ValueLemmas.{too_long}
use Rattle.testr_words.proofs.values.number_up_to_max.Goals as goal

pub returns-in-Err : goal.returns-in-Err
returns-in-Err c = omega (arith, too_long c.args.digits.now c.parse.result c.in-Err.field-0 c.requires.digits c.parse.ensures.value.0 c.in-Err.is)
