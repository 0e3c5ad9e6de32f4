use Rattle.command_steps.proofs.SourceLemmas.{closes_fault}
use Rattle.command_steps.proofs.files.close.Goals as goal

pub returns-in_err-summary : goal.returns-in_err-summary
returns-in_err-summary c = closes_fault _ _ c.from_residual.ensures.1
