use Rattle.v1_bridge.proofs.CutLemmas.{size_found, size_all}
use Rattle.v1_bridge.proofs.part_lines.line_size.Goals as goal

pub returns-in-Some-clause-size : goal.returns-in-Some-clause-size
returns-in-Some-clause-size c = size_found c.args.bytes.now c.in-Some.place c.in-Some.ensures

pub returns-in-None-clause-size : goal.returns-in-None-clause-size
returns-in-None-clause-size c = size_all c.args.bytes.now c.in-None.ensures
