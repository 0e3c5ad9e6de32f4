use Rattle.command_steps.proofs.PlanLemmas.{hands_none, hands_asked}
use Rattle.command_steps.proofs.work_plan.hand_ids.Goals as goal

pub returns-then-not-find_causes : goal.returns-then-not-find_causes
returns-then-not-find_causes c = hands_none c.args.conf.now c.args.find_causes c.if-not-find_causes.true

pub returns : goal.returns
returns c = hands_asked c.args.conf.now c.args.find_causes c.can_hand_ids.result c.if-not-find_causes.false c.can_hand_ids.ensures.handed c.can_hand_ids.ensures.refused c.can_hand_ids.ensures.exactly
