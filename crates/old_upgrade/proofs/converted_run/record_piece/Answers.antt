use Rattle.std.proofs.Common.{arith}
use Rattle.old_upgrade.proofs.FileLemmas.{goes_piece}
use Rattle.old_upgrade.proofs.converted_run.record_piece.Goals as goal

pub returns-clause-recorded : goal.returns-clause-recorded
returns-clause-recorded g c =
    goes_piece _ c.args.place _ c.in_ok-count.count c.args.file.now c.feed.new.self c.read_old.new.buf c.args.packets.now.items c.feed.new.packets.items (omega (arith, c.read_old.auto.buf)) c.requires.empty
    _ _ _ c.requires.published c.in_ok-count.ensures.part c.in_ok-count.ensures.same c.in_ok-feed.ensures.fed c.in_ok-write_packets.ensures.written
