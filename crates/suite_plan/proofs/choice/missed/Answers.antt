use Rattle.suite_plan.proofs.ChoosingLemmas.{missed_by_none}
use Rattle.suite_plan.proofs.choice.missed.Goals as goal

pub returns-then-is_empty : goal.returns-then-is_empty
returns-then-is_empty c = missed_by_none c.args.filters.now c.args.ids c.if-is_empty.ensures
