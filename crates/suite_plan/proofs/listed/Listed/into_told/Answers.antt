use Rattle.suite_plan.specs.Saying.{said_by}
use Rattle.suite_plan.proofs.SaidLemmas.{said_all}
use Rattle.suite_plan.proofs.listed.Listed.into_told.Goals as goal

pub returns : goal.returns
returns c = λ bytes are has. said_all c.into_told.result bytes c.args.self are has (c.into_told.ensures (said_by has.events) has.tells.said)
