use Rattle.std.proofs.Common.{rules, ◌≡◌, [], ◌∷◌, ◌∙◌}
use Rattle.worker_lane.specs.Lanes.{rest}
use Rattle.worker_lane.proofs.LaneLemmas.{lot_told}
use Rattle.worker_lane.proofs.lane.Lane.next_turn.Goals as goal

pub returns-in-Some-2-clause-gives : goal.returns-in-Some-2-clause-gives
returns-in-Some-2-clause-gives g c =
    let gives = rw (c.in-Some-2.is) at c.in_ok-lot.ensures.gives in
    let given = lot_told (g.C.Child.seen c.if-is_reading.self.child).told c.if-is_reading.self.course c.step.new.self (c.in-Some-2.lot ∷ []) gives in
    let same : rest g.C.Child.seen c.args.self.now ≡ rest g.C.Child.seen c.if-is_reading.self = search rules in
    same ∙ given
