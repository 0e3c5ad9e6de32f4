use Rattle.std.proofs.Common.{rules}
use Rattle.run_shelf.proofs.ReadingLemmas.{reads_then}
use Rattle.run_ledger.specs.Ledger.{IsFailingSet}
use Rattle.run_ledger.proofs.ClosesLemmas.{done_telling}
use Rattle.command_steps.proofs.TellLemmas.{ledger_fails, failing_where, last_failures_said}
use Rattle.command_steps.proofs.question_answers.tell_last_failures.Goals as goal

pub returns-in-Err-clause-count : goal.returns-in-Err-clause-count
returns-in-Err-clause-count g c = ledger_fails _ _ _ _ c.failing.result c.in-Err.fault c.ledger_refusal.result c.in-Err.is c.ledger_refusal.ensures c.requires.open c.failing.ensures.reads.closes c.failing.ensures.reads.cause

pub returns-in-Err-last_failures-clause-count : goal.returns-in-Err-last_failures-clause-count
returns-in-Err-last_failures-clause-count g c =
    let both = reads_then _ _ _ _ _ (done_telling _ _ _ c.in-Ok.ensures.reads) c.last_failures.ensures.reads in
    ledger_fails _ _ _ _ c.last_failures.result c.in-Err-last_failures.fault c.ledger_refusal-in-Err-last_failures.result c.in-Err-last_failures.is c.ledger_refusal-in-Err-last_failures.ensures c.requires.open both.closes both.cause

pub returns-clause-told : goal.returns-clause-told
returns-clause-told g c =
    last_failures_said c.in-Ok.ids _ (record { text = c.last_failures_text.new.out; verdict = c.failing_verdict.result }) _ _
    (rw c.in-Ok.is at (failing_where _ _ c.failing.result (c.requires.fits c.requires.open) IsFailingSet c.failing.ensures.ids_where_few))
    (done_telling _ _ _ c.in-Ok.ensures.reads).same c.in-Ok-last_failures.ensures.found (search rules) c.failing_verdict.ensures
