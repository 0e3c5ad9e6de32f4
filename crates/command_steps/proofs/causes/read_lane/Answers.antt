use Rattle.std.proofs.Common.{◌∙◌}
use Rattle.command_steps.proofs.FindingLemmas.{lists_more, lists_still}
use Rattle.command_steps.proofs.TellLemmas.{ledger_fails}
use Rattle.command_steps.proofs.causes.read_lane.Goals as goal

pub returns-in-Err-clause-count : goal.returns-in-Err-clause-count
returns-in-Err-clause-count g c = ledger_fails _ _ _ _ c.ran_ids.result c.in-Err.fault c.ledger_refusal.result c.in-Err.is c.ledger_refusal.ensures c.requires.unbroken c.ran_ids.ensures.reads.closes c.ran_ids.ensures.reads.cause
