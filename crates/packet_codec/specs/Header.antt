-- What a reader can say of the bytes at hand before it has a whole packet.
use Rattle.std.specs.Prelude.{◌≡◌, ◌⊎◌, ℕ, ◌+◌, ◌/◌, ◌%◌, ◌<◌, ◌≤◌, List, ◌∷◌, ◌++◌, length, take, All}
use Rattle.sub_number.specs.Numbers.{SpellsNumber}
use Rattle.packet_codec.specs.Packet.{signature, IsPacket}
use Rattle.packet_codec.specs.declared.front.Front.{Front}
use Rattle.packet_codec.specs.declared.front.Front.TheVariants.{Packet, More, No}

-- The signature, two flag bytes of version 2 with bit 3 zero, and the size of a packet in one to three bytes, which has
-- room for the header and a checksum.
pub record IsHeader (bytes : List ℕ) (size : ℕ) : Type 0 where
  pub first : ℕ
  pub second : ℕ
  pub number : List ℕ
  pub parts : bytes ≡ signature ∷ first ∷ second ∷ number
  pub version : first / 16 ≡ 2
  pub zero_bit : second / 8 % 2 ≡ 0
  pub size_spelled : SpellsNumber number size
  pub size_short : length number ≤ 3
  pub room : length bytes + 4 ≤ size

-- the bytes begin with a header of this size
abbrev pub BeginsWithHeader : List ℕ → ℕ → Type 0
BeginsWithHeader bytes size = (header : List ℕ) × (rest : List ℕ) × (bytes ≡ header ++ rest) × IsHeader header size

-- the bytes begin with a packet of this size
pub record BeginsWithPacket (bytes : List ℕ) (size : ℕ) : Type 0 where
  pub header : BeginsWithHeader bytes size
  pub in_range : size ≤ length bytes
  pub packet : IsPacket (take size bytes)

-- some bytes that are still to come make a header of these
pub record IsFrontOfHeader (bytes : List ℕ) : Type 0 where
  pub rest : List ℕ
  pub size : ℕ
  pub some : 0 < length rest
  pub are_bytes : All (λ byte. byte < 256) rest
  pub header : IsHeader (bytes ++ rest) size

-- More bytes are asked for: the header is not whole, or the packet that it tells of. The bytes at hand may tell by
-- then that no packet comes of it.
abbrev pub NeedsMore : List ℕ → Type 0
NeedsMore bytes = IsFrontOfHeader bytes ⊎ ((size : ℕ) × BeginsWithHeader bytes size × (length bytes < size))

-- a packet, or a place where more bytes are asked for, or neither: then no packet stands there, whatever follows
abbrev pub LooksLike : List ℕ → Front → Type 0
LooksLike bytes (Packet size) = BeginsWithPacket bytes size
LooksLike bytes More = NeedsMore bytes
LooksLike bytes No = (((size : ℕ) → BeginsWithPacket bytes size → ⊥) × (NeedsMore bytes → ⊥))
