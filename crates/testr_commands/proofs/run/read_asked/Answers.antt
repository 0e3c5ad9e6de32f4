use Rattle.std.proofs.Common.{Ok, Err, subst}
use Rattle.suite_plan.specs.Patterns.{Compiles}
use Rattle.testr_commands.proofs.run.read_asked.Goals as goal

pub returns-in-Ok-copies_of-clause-compiled : goal.returns-in-Ok-copies_of-clause-compiled
returns-in-Ok-copies_of-clause-compiled c = subst (λ regex. Compiles c.args.command.now.names c.args.command.now.excluded regex (Ok c.in-Ok.compiled)) c.group_regex.ensures c.in-Ok.ensures

pub returns-in-Err-clause-compiled : goal.returns-in-Err-clause-compiled
returns-in-Err-clause-compiled c = subst (λ regex. Compiles c.args.command.now.names c.args.command.now.excluded regex (Err c.in-Err.refusal)) c.group_regex.ensures c.in-Err.ensures
