use Rattle.std.proofs.Common.{◌-◌, arith}
use Rattle.command_steps.proofs.TellLemmas.{notes_said}
use Rattle.command_steps.proofs.question_answers.tell_notes.Goals as goal

pub returns-clause-told : goal.returns-clause-told
returns-clause-told g c = notes_said c.args.skips _ (c.runs-number.result - 1) c.in-Ok.rows (record { text = c.in-Ok-noted_report.text; verdict = c.verdict_of_rows.result }) _ c.requires.some (omega (arith, c.runs-number.ensures)) (c.requires.fits c.requires.open) c.in-Ok.ensures.rows c.in-Ok-noted_report.ensures c.verdict_of_rows.ensures
