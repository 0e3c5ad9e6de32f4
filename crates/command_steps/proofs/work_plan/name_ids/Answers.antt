use Rattle.std.proofs.Common.{List, ap}
use Rattle.std.specs.Option.{option_map}
use Rattle.command_steps.proofs.PlanLemmas.{names_shares}
use Rattle.command_steps.proofs.work_plan.name_ids.Goals as goal

pub returns-in-Some : goal.returns-in-Some
returns-in-Some c = names_shares _ _ _ _ c.as_slice.ensures.value (ap (option_map (λ list. list.items)) c.in-Some.is) c.name_each.ensures.named c.name_each.ensures.refused
