use Rattle.std.proofs.Common.{◌++◌}
use Rattle.old_runs.proofs.FileLemmas.{given_packets, failing_more}
use Rattle.old_runs.proofs.failing_tests.OldFailing.feed.Goals as goal

pub feed-requires : goal.feed-requires
feed-requires c = let (bytes, h) = c.requires.going_on in record { going_on = (bytes, h.events, h.fed) }

pub hear_packets-requires : goal.hear_packets-requires
hear_packets-requires c =
    let (bytes, h) = c.requires.going_on in
    let given = c.in_ok-feed.ensures.fed bytes h.events h.fed in
    record { packets = (given.more, given_packets _ _ _ c.deref.result.now c.clear.ensures.items c.deref.ensures.value given) }

pub returns-clause-heard : goal.returns-clause-heard
returns-clause-heard c bytes h =
    failing_more c.args.self.now _ bytes c.args.piece.now _ _ c.deref.result.now c.clear.ensures.items c.deref.ensures.value h c.in_ok-feed.ensures.fed c.in_ok-hear_packets.ensures

pub returns-clause-going_on : goal.returns-clause-going_on
returns-clause-going_on c = let (bytes, h) = c.requires.going_on in (bytes ++ c.args.piece.now, returns-clause-heard c bytes h)
