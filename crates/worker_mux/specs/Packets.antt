-- Lots of whole packets.
use Rattle.std.specs.Prelude.{⊤}
use Rattle.packet_codec.specs.Packets.{ArePackets}
use Rattle.worker_lane.specs.declared.lot.Lot.{Lot}
use Rattle.worker_lane.specs.declared.lot.Lot.TheVariants.{Packet, End}

-- a lot is of whole packets, or an end
abbrev pub IsWhole : Lot → Type 0
IsWhole (Packet packets) = ArePackets packets
IsWhole (End how) = ⊤
