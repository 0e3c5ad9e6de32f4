use Rattle.suite_causes.proofs.SuspectLemmas.{takes_none, takes_one}
use Rattle.suite_causes.proofs.suspects.take.Goals as goal

pub returns-in-Some : goal.returns-in-Some
returns-in-Some c = λ rows is. takes_one c.add.result c.args.found.now.items c.add.new.found.items rows c.args.row.now c.lane_of.result c.in-Some.lane c.lane_of.ensures c.in-Some.is c.add.ensures is

pub returns-in-None : goal.returns-in-None
returns-in-None c = λ rows is. takes_none c.args.found.now.items rows c.args.row.now c.lane_of.result c.lane_of.ensures c.in-None.is is
