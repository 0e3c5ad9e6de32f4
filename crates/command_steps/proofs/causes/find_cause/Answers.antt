use Rattle.std.proofs.Common.{◌≡◌, get_or, refl, rules}
use Rattle.command_steps.specs.Steps.{stops}
use Rattle.command_steps.proofs.FindingLemmas.{ran_here}
use Rattle.command_steps.proofs.StepLemmas.{part_done}
use Rattle.command_steps.proofs.causes.find_cause.Goals as goal

pub returns-in-Err-clause-step : goal.returns-in-Err-clause-step
returns-in-Err-clause-step g c = λ site input. stops c.in-Err.fault refl (record { at = record { ids = tt; same = c.read_lane.ensures.same; count = c.in-Err.ensures.count }; rest = refl })

pub returns-in-Ok-clause-step : goal.returns-in-Ok-clause-step
returns-in-Ok-clause-step g c =
    let here : c.index.result.now ≡ get_or c.read_lane.new.lists.items c.in-Ok.place c.index.result.now = search rules in
    λ site input.
    part_done _ _ (ran_here _ _ c.in-Ok.place _ _ _ _ here c.in-Ok.ensures.place c.in-Ok.ensures.lists c.read_lane.ensures.same c.in-Ok.ensures.count)
    (c.find_among.ensures (g.H.Shelf.seen c.read_lane.new.store.shelf.now) site input)
