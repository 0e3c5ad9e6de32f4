use Rattle.std.proofs.Common.{arith}
use Rattle.old_upgrade.proofs.FailingLemmas.{piece_heard}
use Rattle.old_upgrade.proofs.failing_set.hear_piece.Goals as goal

pub returns-clause-heard : goal.returns-clause-heard
returns-clause-heard g c =
    piece_heard c.args.place _ c.in_ok-count.count c.args.failing.now c.feed.new.self c.read_old.new.buf (omega (arith, c.read_old.auto.buf)) c.in_ok-feed.ensures.heard
    _ c.requires.published c.in_ok-count.ensures.part
