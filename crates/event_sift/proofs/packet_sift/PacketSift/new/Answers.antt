use Rattle.event_sift.proofs.packet_sift.PacketSift.new.Goals as goal

pub returns-clause-taken : goal.returns-clause-taken
returns-clause-taken g c = record { folded = c.new.ensures; held = c.new-2.ensures }
