use Rattle.std.proofs.Common.{refl}
use Rattle.std.specs.Prelude.{codes}
use Rattle.std.specs.Fmt.{decimal}
use Rattle.command_steps.proofs.Lines.{rest_in_part, number_in_part}
use Rattle.command_steps.proofs.refusal_line.tell_place.Goals as goal

pub returns-in_err-write_whole-2-clause-prefix : goal.returns-in_err-write_whole-2-clause-prefix
returns-in_err-write_whole-2-clause-prefix g c = number_in_part c.args.name.now (codes " line ") (decimal c.args.number) _ c.as_bytes.ensures.value _ _ c.in_ok-write_whole.ensures.whole _ c.in_err-write_whole-2.ensures.prefix

pub returns-clause-prefix : goal.returns-clause-prefix
returns-clause-prefix g c = rest_in_part c.args.name.now (codes " line ") (decimal c.args.number) _ c.as_bytes.ensures.value _ _ c.in_ok-write_whole.ensures.whole _ c.in_ok-write_whole-2.ensures.whole (decimal c.args.number) refl _ c.tell_number.ensures.prefix
