use Rattle.std.proofs.Common.{[], rules, subst, sym, List, ℕ}
use Rattle.packet_codec.specs.Packet.{SpellsEvent}
use Rattle.worker_lane.specs.Scribing.{GivesPacket}
use Rattle.worker_lane.proofs.CourseLemmas.{HearsPacket, next_stays, given_spelled, gives_heard, none_heard}
use Rattle.worker_lane.proofs.lane_state.LaneState.next_heard.Goals as goal

pub returns-in_default-clause-none : goal.returns-in_default-clause-none
returns-in_default-clause-none c = rw (← c.self.view_is) (none_heard c.self.inside.scribe c.self.inside.sought c.self.inside.stage c.self.inside.failed (search rules) c.self.invariant.1)

pub hear-requires : goal.hear-requires
hear-requires c =
    let gives : GivesPacket c.self.inside.scribe [] c.next.new.self c.in-Some.packet = search rules in
    (gives.event, subst (λ (p : List ℕ). SpellsEvent p gives.event) (sym c.bytes.ensures) (given_spelled c.self.inside.scribe c.next.new.self c.in-Some.packet c.self.invariant.0 gives))

pub invariant_of-self-2 : goal.invariant_of-self-2
invariant_of-self-2 c =
    let stays = next_stays c.next.result c.self.inside.scribe c.next.new.self c.next.ensures.some c.next.ensures.none c.next.ensures.err in
    (stays.sound c.self.invariant.0, rw (stays.ended) c.self.invariant.1)

pub returns-clause-gives : goal.returns-clause-gives
returns-clause-gives c =
    let gives : GivesPacket c.self.inside.scribe [] c.next.new.self c.in-Some.packet = search rules in
    let hears : HearsPacket c.self.inside.sought c.in-Some.packet c.hear.new.self = subst (λ (p : List ℕ). HearsPacket c.self.inside.sought p c.hear.new.self) c.bytes.ensures c.hear.ensures in
    rw (← c.self.view_is) (gives_heard c.self.inside.scribe c.next.new.self c.self.inside.sought c.hear.new.self c.self.inside.stage c.self.inside.failed c.in-Some.packet gives hears c.self.invariant.0 c.self.invariant.1)
