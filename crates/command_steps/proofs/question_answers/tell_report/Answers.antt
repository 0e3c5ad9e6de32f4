use Rattle.std.proofs.Common.{◌-◌, arith}
use Rattle.command_steps.proofs.TellLemmas.{report_said}
use Rattle.command_steps.proofs.question_answers.tell_report.Goals as goal

pub returns-clause-told : goal.returns-clause-told
returns-clause-told g c = report_said _ (c.runs-number.result - 1) c.in-Ok.rows (record { text = c.in-Ok-report.text; verdict = c.verdict_of_rows.result }) _ c.requires.some (omega (arith, c.runs-number.ensures)) (c.requires.fits c.requires.open) c.in-Ok.ensures.rows c.in-Ok-report.ensures c.verdict_of_rows.ensures
