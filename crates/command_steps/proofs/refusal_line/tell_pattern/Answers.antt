use Rattle.std.proofs.Common.{refl}
use Rattle.std.specs.Prelude.{codes}
use Rattle.command_steps.specs.Telling.{place_text}
use Rattle.command_steps.proofs.Lines.{rest_in_part, number_in_part}
use Rattle.command_steps.proofs.refusal_line.tell_pattern.Goals as goal

pub returns-in_err-write_whole-clause-prefix : goal.returns-in_err-write_whole-clause-prefix
returns-in_err-write_whole-clause-prefix g c =
    number_in_part (place_text c.args.name.now c.args.number) (codes ": bad pattern: ") c.args.pattern.now _ refl _ _ c.in_ok-tell_place.ensures.whole _ c.in_err-write_whole.ensures.prefix

pub returns-clause-prefix : goal.returns-clause-prefix
returns-clause-prefix g c =
    rest_in_part (place_text c.args.name.now c.args.number) (codes ": bad pattern: ") c.args.pattern.now _ refl _ _ c.in_ok-tell_place.ensures.whole _ c.in_ok-write_whole.ensures.whole _ c.as_bytes.ensures.value _ c.write_whole-2.ensures.prefix
