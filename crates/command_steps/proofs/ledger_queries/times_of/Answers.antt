use Rattle.run_ledger.specs.Ledger.{AreTimes}
use Rattle.command_steps.proofs.StepCalls.{covered_times}
use Rattle.command_steps.proofs.TellLemmas.{ledger_fails, times_where}
use Rattle.command_steps.proofs.ledger_queries.times_of.Goals as goal

pub returns-in-Err-clause-count : goal.returns-in-Err-clause-count
returns-in-Err-clause-count g c = ledger_fails _ _ _ _ c.times.result c.in-Err.fault c.ledger_refusal.result c.in-Err.is c.ledger_refusal.ensures c.requires.unbroken c.times.ensures.reads.closes c.times.ensures.reads.cause

pub returns-in-Ok-clause-times : goal.returns-in-Ok-clause-times
returns-in-Ok-clause-times g c = rw c.in-Ok.is at (times_where _ _ c.times.result (c.requires.fits c.requires.unbroken) AreTimes c.times.ensures.times_where_few)

pub returns-in-Err-clause-calls : goal.returns-in-Err-clause-calls
returns-in-Err-clause-calls g c = record { same = c.times.ensures.reads.same; few = covered_times _ _ _ _ (c.requires.fits c.requires.unbroken) c.times.ensures.spares }

pub returns-in-Ok-clause-calls : goal.returns-in-Ok-clause-calls
returns-in-Ok-clause-calls g c = record { same = c.times.ensures.reads.same; few = covered_times _ _ _ _ (c.requires.fits c.requires.unbroken) c.times.ensures.spares }
