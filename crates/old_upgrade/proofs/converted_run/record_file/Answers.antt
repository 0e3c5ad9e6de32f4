use Rattle.std.proofs.lemmas.Bool.{both_ways}
use Rattle.old_upgrade.proofs.FileLemmas.{same_then}
use Rattle.old_upgrade.proofs.RunLemmas.{goes_recorded, goes_damaged}
use Rattle.old_upgrade.proofs.converted_run.record_file.Goals as goal

pub returns-clause-recorded : goal.returns-clause-recorded
returns-clause-recorded g c =
    goes_recorded c.args.number c.record_pieces.new.file c.record_pieces.new.packets.items c.close.new.packets.items c.in_ok-record_pieces.ensures.empty _ _ _
    c.in_ok-record_pieces.ensures.recorded c.in_ok-damaged.ensures.events c.in_ok-write_packets.ensures.written
    (λ bytes given fed bad. both_ways c.in_ok-damaged.damaged c.if-damaged.false ((c.in_ok-damaged.ensures.damaged bytes given fed).1 bad))

pub returns-clause-rests : goal.returns-clause-rests
returns-clause-rests g c = same_then _ _ _ c.in_ok-record_pieces.ensures.rests c.in_ok-write_packets.ensures.rests

pub returns-then-damaged-clause-rests : goal.returns-then-damaged-clause-rests
returns-then-damaged-clause-rests g c = same_then _ _ _ c.in_ok-record_pieces.ensures.rests c.in_ok-write_packets.ensures.rests

pub returns-then-damaged-clause-refused : goal.returns-then-damaged-clause-refused
returns-then-damaged-clause-refused g c =
    goes_damaged c.args.number c.record_pieces.new.file c.record_pieces.new.packets.items c.close.new.packets.items c.in_ok-record_pieces.ensures.empty _ _ _
    c.in_ok-record_pieces.ensures.recorded c.in_ok-write_packets.ensures.written
    (λ bytes given fed. (c.in_ok-damaged.ensures.damaged bytes given fed).0 c.if-damaged.true)
