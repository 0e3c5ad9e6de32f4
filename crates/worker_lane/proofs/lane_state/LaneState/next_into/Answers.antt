use Rattle.std.proofs.Common.{◌≡◌, ◌∙◌, length, drop, ap, arith}
use Rattle.worker_lane.proofs.CourseLemmas.{into_stays, into_appends, appended_spelled, appended_packet, at_reading}
use Rattle.worker_lane.proofs.lane_state.LaneState.next_into.Goals as goal

pub invariant_of-self : goal.invariant_of-self
invariant_of-self c =
    let stays = into_stays c.next_into.result c.self.inside.scribe c.next_into.new.self c.args.out.now.items c.next_into.new.out.items c.next_into.ensures.given c.next_into.ensures.none c.next_into.ensures.err in
    (stays.sound c.self.invariant.0, rw (stays.ended) c.self.invariant.1)

pub hear-requires : goal.hear-requires
hear-requires c =
    let gives = c.in-Ok.ensures.given c.if-given.true in
    let start_is : c.len-start.result ≡ length c.args.out.now.items = omega (arith, c.len-start.ensures) in
    let is : c.behind.result.now ≡ drop (length c.args.out.now.items) c.next_into.new.out.items =
    c.behind.ensures ∙ ap (λ n. drop n c.deref.result.now) start_is ∙ ap (drop (length c.args.out.now.items)) c.deref.ensures.value in
    let packet = appended_packet c.self.inside.scribe c.next_into.new.self c.args.out.now.items c.next_into.new.out.items c.behind.result.now gives is in
    (gives.event, appended_spelled c.self.inside.scribe c.next_into.new.self c.args.out.now.items c.next_into.new.out.items c.behind.result.now c.self.invariant.0 gives packet)

pub invariant_of-self-then-given : goal.invariant_of-self-then-given
invariant_of-self-then-given c =
    let stays = into_stays c.next_into.result c.self.inside.scribe c.next_into.new.self c.args.out.now.items c.next_into.new.out.items c.next_into.ensures.given c.next_into.ensures.none c.next_into.ensures.err in
    (stays.sound c.self.invariant.0, rw (stays.ended) c.self.invariant.1)

pub returns-then-given-clause-appends : goal.returns-then-given-clause-appends
returns-then-given-clause-appends c = λ given.
    let reading = rw (← c.self.view_is) at c.requires in
    let gives = c.in-Ok.ensures.given c.if-given.true in
    let start_is : c.len-start.result ≡ length c.args.out.now.items = omega (arith, c.len-start.ensures) in
    let is : c.behind.result.now ≡ drop (length c.args.out.now.items) c.next_into.new.out.items =
    c.behind.ensures ∙ ap (λ n. drop n c.deref.result.now) start_is ∙ ap (drop (length c.args.out.now.items)) c.deref.ensures.value in
    let packet = appended_packet c.self.inside.scribe c.next_into.new.self c.args.out.now.items c.next_into.new.out.items c.behind.result.now gives is in
    rw (← c.self.view_is) (into_appends c.self.inside.scribe c.next_into.new.self c.self.inside.sought c.hear.new.self c.self.inside.stage c.self.inside.failed c.args.out.now.items c.next_into.new.out.items c.behind.result.now reading c.self.invariant.0 (at_reading c.self.inside.stage _ c.self.inside.failed reading c.self.invariant.1) c.self.invariant.1 gives packet c.hear.ensures)
