use Rattle.command_steps.proofs.TellLemmas.{ledger_fails}
use Rattle.command_steps.proofs.question_answers.last_rows.Goals as goal

pub returns-in-Err-clause-count : goal.returns-in-Err-clause-count
returns-in-Err-clause-count g c = ledger_fails _ _ _ _ c.rows_of.result c.in-Err.fault c.ledger_refusal.result c.in-Err.is c.ledger_refusal.ensures c.requires.open c.rows_of.ensures.reads.closes c.rows_of.ensures.reads.cause
