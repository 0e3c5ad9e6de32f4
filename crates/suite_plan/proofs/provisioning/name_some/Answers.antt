use Rattle.suite_plan.specs.Provisioning.{named_in}
use Rattle.suite_plan.proofs.InstanceLemmas.{tells_of}
use Rattle.suite_plan.proofs.provisioning.name_some.Goals as goal

pub returns-in-Ok : goal.returns-in-Ok
returns-in-Ok c = tells_of c.in-Ok.names (named_in c.args.bytes.now) _ c.in-Ok.ensures c.unless_none.ensures
