use Rattle.worker_lane.proofs.RecordingLemmas.{packet_if_given, shorter_if_given, given_shorter}
use Rattle.worker_lane.proofs.scribe.Scribe.next_into.Goals as goal

pub returns-clause-given : goal.returns-clause-given
returns-clause-given c =
    let same = c.in_ok-put_next.ensures.none c.if-branch.false in
    let some = rw (same.1, same.2) at c.put_inside.ensures.some in
    packet_if_given _ _ _ _ _ some

pub returns-clause-shorter : goal.returns-clause-shorter
returns-clause-shorter c =
    let same = c.in_ok-put_next.ensures.none c.if-branch.false in
    let some = rw (same.1, same.2) at c.put_inside.ensures.some in
    shorter_if_given _ _ _ _ _ some

pub returns-then-branch-clause-shorter : goal.returns-then-branch-clause-shorter
returns-then-branch-clause-shorter c = λ is.
    let one = c.in_ok-put_next.ensures.some c.if-branch.true in
    given_shorter _ _ one.0 one.1.given
