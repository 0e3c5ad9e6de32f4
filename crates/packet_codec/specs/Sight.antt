-- What stands at the front of some bytes, with the bytes of the packet itself.
use Rattle.std.specs.Prelude.{◌≡◌, ℕ, List, length, take}
use Rattle.packet_codec.specs.Header.{BeginsWithPacket, NeedsMore}
use Rattle.packet_codec.specs.declared.front_reader.Sight.{Sight}
use Rattle.packet_codec.specs.declared.front_reader.Sight.TheVariants.{Packet, More, No}

-- the bytes begin with this packet
pub record BeginsWithThis (bytes packet : List ℕ) : Type 0 where
  pub begins : BeginsWithPacket bytes (length packet)
  pub front : packet ≡ take (length packet) bytes

-- a packet, or a place where more bytes are asked for, or neither: then no packet stands there, whatever follows
abbrev pub IsSightOf : List ℕ → Sight → Type 0
IsSightOf bytes (Packet packet) = BeginsWithThis bytes packet
IsSightOf bytes More = NeedsMore bytes
IsSightOf bytes No = (((size : ℕ) → BeginsWithPacket bytes size → ⊥) × (NeedsMore bytes → ⊥))
