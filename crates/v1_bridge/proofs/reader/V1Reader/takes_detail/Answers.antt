use Rattle.v1_bridge.specs.Kept.{state_of}
use Rattle.v1_bridge.proofs.PlaceLemmas.{state_in_place}
use Rattle.v1_bridge.proofs.reader.V1Reader.takes_detail.Goals as goal

pub returns-in-Some-clause-state : goal.returns-in-Some-clause-state
returns-in-Some-clause-state c =
    let before = state_of c.args.self.now in
    state_in_place c.takes_line.result before c.args.self.now.open_test c.in-Some.test c.takes_line.new.self c.args.line.now c.in-Some.is (c.takes_line.ensures.test before) (c.takes_line.ensures.last before) (c.takes_line.ensures.tags before)
