mod PacketLemmas
