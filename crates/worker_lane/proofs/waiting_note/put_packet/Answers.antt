use Rattle.worker_lane.proofs.WaitingLemmas.{puts_whole}
use Rattle.worker_lane.proofs.waiting_note.put_packet.Goals as goal

pub returns-then-branch-clause-puts : goal.returns-then-branch-clause-puts
returns-then-branch-clause-puts c = λ e spelled.
    let put = c.in_ok-put_under.ensures.put e spelled c.if-branch.true in
    puts_whole c.args.lane c.args.packet.now e _ _ _ c.requires.lane c.requires.bytes spelled c.requires.none put.0 put.1

pub returns-clause-puts : goal.returns-clause-puts
returns-clause-puts c = λ e spelled.
    let same = (c.in_ok-put_under.ensures.too_long e spelled c.if-branch.false).1 in
    rw same at (c.put_too_long.ensures.puts e spelled)

pub returns-clause-err : goal.returns-clause-err
returns-clause-err c =
    let (e, spelled) = c.requires.packet in
    let same = (c.in_ok-put_under.ensures.too_long e spelled c.if-branch.false).1 in
    rw same at c.put_too_long.ensures.err
