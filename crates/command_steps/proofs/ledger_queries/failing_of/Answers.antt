use Rattle.run_ledger.specs.Ledger.{IsFailingSet}
use Rattle.command_steps.proofs.StepCalls.{covered_failing}
use Rattle.command_steps.proofs.TellLemmas.{ledger_fails, failing_where}
use Rattle.command_steps.proofs.ledger_queries.failing_of.Goals as goal

pub returns-in-Err-clause-count : goal.returns-in-Err-clause-count
returns-in-Err-clause-count g c = ledger_fails _ _ _ _ c.failing.result c.in-Err.fault c.ledger_refusal.result c.in-Err.is c.ledger_refusal.ensures c.requires.unbroken c.failing.ensures.reads.closes c.failing.ensures.reads.cause

pub returns-in-Ok-clause-ids : goal.returns-in-Ok-clause-ids
returns-in-Ok-clause-ids g c = rw c.in-Ok.is at (failing_where _ _ c.failing.result (c.requires.fits c.requires.unbroken) IsFailingSet c.failing.ensures.ids_where_few)

pub returns-in-Err-clause-calls : goal.returns-in-Err-clause-calls
returns-in-Err-clause-calls g c = record { same = c.failing.ensures.reads.same; few = covered_failing _ _ _ _ (c.requires.fits c.requires.unbroken) c.failing.ensures.spares }

pub returns-in-Ok-clause-calls : goal.returns-in-Ok-clause-calls
returns-in-Ok-clause-calls g c = record { same = c.failing.ensures.reads.same; few = covered_failing _ _ _ _ (c.requires.fits c.requires.unbroken) c.failing.ensures.spares }
