use Rattle.std.proofs.Common.{◌≡◌, true, false, List, ap, rules}
use Rattle.packet_codec.specs.declared.event.Event.{Event}
use Rattle.worker_lane.proofs.InsideEventLemmas.{inside_packet}
use Rattle.worker_lane.proofs.RecordingLemmas.{told_given}
use Rattle.worker_lane.proofs.scribe.Scribe.put_inside.Goals as goal

pub returns-clause-some : goal.returns-clause-some
returns-clause-some c = λ is.
    let told : c.self.inside.inside ≡ true = search rules in
    let none = rw (← c.self.view_is) at c.requires in
    rw (← c.self.view_is) (told_given _ _ _ _ none (c.self.invariant.2 told) told (inside_packet c.self.inside.lane c.self.invariant.0)
    (ap (λ (l : List Event). record { lane = c.self.inside.lane; waiting = l; held = c.self.inside.reader; missing = c.self.inside.character; inside = false }) none.0)
    (search rules))
