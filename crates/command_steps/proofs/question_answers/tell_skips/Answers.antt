use Rattle.std.proofs.Common.{◌≡◌, ◌-◌, ◌++◌, ◌∙◌, ap, arith}
use Rattle.command_steps.proofs.TellLemmas.{skips_said}
use Rattle.command_steps.proofs.question_answers.tell_skips.Goals as goal

pub returns-clause-told : goal.returns-clause-told
returns-clause-told g c =
    let tells = c.in-Ok-skips_text.ensures.ok in
    skips_said _ (c.runs-number.result - 1) c.in-Ok.rows tells.0 (record { text = c.skips_text.new.out; verdict = c.verdict_of_rows.result }) _ c.requires.some (omega (arith, c.runs-number.ensures)) (c.requires.fits c.requires.open) c.in-Ok.ensures.rows
    tells.1 (tells.2 ∙ ap (λ l. l ++ tells.0) c.in-Ok-report.ensures) c.verdict_of_rows.ensures
