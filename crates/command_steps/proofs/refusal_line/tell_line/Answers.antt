use Rattle.command_steps.proofs.Lines.{whole_line, rest_in_part, number_in_part, front_in_part}
use Rattle.command_steps.specs.Telling.{part_text}
use Rattle.command_steps.proofs.refusal_line.tell_line.Goals as goal

pub returns-in_err-write_whole-clause-prefix : goal.returns-in_err-write_whole-clause-prefix
returns-in_err-write_whole-clause-prefix g c = front_in_part c.args.line.front.now (part_text c.args.line.part) c.args.line.rest.now _ c.as_bytes.ensures.value _ _ c.write_whole.ensures.prefix

pub returns-in_err-tell_part-clause-prefix : goal.returns-in_err-tell_part-clause-prefix
returns-in_err-tell_part-clause-prefix g c = number_in_part c.args.line.front.now (part_text c.args.line.part) c.args.line.rest.now _ c.as_bytes.ensures.value _ _ c.in_ok-write_whole.ensures.whole _ c.tell_part.ensures.prefix

pub returns-clause-whole : goal.returns-clause-whole
returns-clause-whole g c = whole_line c.args.line.front.now (part_text c.args.line.part) c.args.line.rest.now _ c.as_bytes.ensures.value _ _ c.in_ok-write_whole.ensures.whole _ c.in_ok-tell_part.ensures.whole _ c.as_bytes-2.ensures.value _ c.write_whole-2.result c.write_whole-2.ensures.whole

pub returns-clause-prefix : goal.returns-clause-prefix
returns-clause-prefix g c = rest_in_part c.args.line.front.now (part_text c.args.line.part) c.args.line.rest.now _ c.as_bytes.ensures.value _ _ c.in_ok-write_whole.ensures.whole _ c.in_ok-tell_part.ensures.whole _ c.as_bytes-2.ensures.value _ c.write_whole-2.ensures.prefix
