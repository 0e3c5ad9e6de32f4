use Rattle.testr_commands.proofs.RunLemmas.{causes_none, causes_asked}
use Rattle.testr_commands.proofs.run.find_where_asked.Goals as goal

pub returns-then-not-asked-clause-step : goal.returns-then-not-asked-clause-step
returns-then-not-asked-clause-step g c = λ site input tags rows sums. causes_none c.args.asked _ _ _ _ c.if-not-asked.true

pub returns-clause-step : goal.returns-clause-step
returns-clause-step g c = λ site input tags rows sums. causes_asked c.args.asked _ _ _ _ _ _ c.if-not-asked.false (c.find_causes.ensures.step site input tags rows sums)

pub returns-clause-still : goal.returns-clause-still
returns-clause-still g c = λ tags rows sums passed. c.find_causes.ensures.still tags rows sums (passed c.if-not-asked.false)
