use Rattle.suite_plan.proofs.ToldLemmas.{one_text, told_short, foreign_told}
use Rattle.suite_plan.proofs.laws.outputs_tell_one_text.Goals as goal

pub returns-clause-one : goal.returns-clause-one
returns-clause-one c = one_text

pub returns-clause-short : goal.returns-clause-short
returns-clause-short c = told_short

pub returns-clause-foreign : goal.returns-clause-foreign
returns-clause-foreign c = foreign_told
