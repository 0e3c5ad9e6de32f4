use Rattle.command_steps.proofs.Lines.{said_in_part, line_in_part, said_and_line}
use Rattle.command_steps.specs.Refusals.{refusal_said, refusal_line}
use Rattle.testr_commands.proofs.answer.tell_refusal.Goals as goal

pub returns-in_err-write_whole-clause-prefix : goal.returns-in_err-write_whole-clause-prefix
returns-in_err-write_whole-clause-prefix g c = said_in_part (refusal_said c.args.refusal.now) (refusal_line c.args.refusal.now) _ c.said.ensures _ _ c.write_whole.ensures.prefix

pub returns-clause-whole : goal.returns-clause-whole
returns-clause-whole g c = said_and_line (refusal_said c.args.refusal.now) (refusal_line c.args.refusal.now) _ c.said.ensures _ _ c.in_ok-write_whole.ensures.whole _ c.line.ensures _ c.tell_line.result c.tell_line.ensures.whole

pub returns-clause-prefix : goal.returns-clause-prefix
returns-clause-prefix g c = line_in_part (refusal_said c.args.refusal.now) (refusal_line c.args.refusal.now) _ c.said.ensures _ _ c.in_ok-write_whole.ensures.whole _ c.line.ensures _ c.tell_line.ensures.prefix
