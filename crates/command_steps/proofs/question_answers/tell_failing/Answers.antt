use Rattle.std.proofs.Common.{rules}
use Rattle.run_ledger.specs.Ledger.{IsFailingSet}
use Rattle.command_steps.proofs.TellLemmas.{ledger_fails, failing_where, failing_said}
use Rattle.command_steps.proofs.question_answers.tell_failing.Goals as goal

pub returns-in-Err-clause-count : goal.returns-in-Err-clause-count
returns-in-Err-clause-count g c = ledger_fails _ _ _ _ c.failing.result c.in-Err.fault c.ledger_refusal.result c.in-Err.is c.ledger_refusal.ensures c.requires.open c.failing.ensures.reads.closes c.failing.ensures.reads.cause

pub returns-clause-told : goal.returns-clause-told
returns-clause-told g c =
    failing_said c.args.list c.in-Ok.ids (record { text = c.failing_text.new.out; verdict = c.failing_verdict.result }) _
    (rw c.in-Ok.is at (failing_where _ _ c.failing.result (c.requires.fits c.requires.open) IsFailingSet c.failing.ensures.ids_where_few))
    (search rules) c.failing_verdict.ensures
