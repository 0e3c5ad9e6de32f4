use Rattle.suite_causes.proofs.AnalysisLemmas.{asked_is, one_text, lines_searched, none_broken}
use Rattle.suite_causes.proofs.laws.outputs_decide_causes.Goals as goal

pub returns-clause-asked : goal.returns-clause-asked
returns-clause-asked c settings candidates test asked s t found later has licensed = asked_is settings candidates test asked s t found later has licensed

pub returns-clause-one_text : goal.returns-clause-one_text
returns-clause-one_text c events suspects outputs text other lines also = one_text events suspects outputs text other lines also

pub returns-clause-searched : goal.returns-clause-searched
returns-clause-searched c settings events suspects text s t searched = lines_searched settings events suspects text s t searched

pub returns-clause-unbroken : goal.returns-clause-unbroken
returns-clause-unbroken c settings candidates test found s t so = none_broken settings candidates test found s t so
