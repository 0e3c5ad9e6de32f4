-- What the header at the front of some bytes tells of them.
use Rattle.std.specs.Prelude.{ℕ, ◌≤◌, List, length}
use Rattle.packet_codec.specs.Header.{BeginsWithPacket, NeedsMore}
use Rattle.packet_codec.specs.Shapes.{HeaderStands}
use Rattle.packet_codec.specs.declared.front_reader.Heading.{Heading}
use Rattle.packet_codec.specs.declared.front_reader.Heading.TheVariants.{Whole, More, No}

-- a header with as many bytes as it tells of, or a place where more bytes are asked for, or neither
abbrev pub IsHeading : List ℕ → Heading → Type 0
IsHeading bytes (Whole header) = HeaderStands bytes header × (header.size ≤ length bytes)
IsHeading bytes More = NeedsMore bytes
IsHeading bytes No = (((size : ℕ) → BeginsWithPacket bytes size → ⊥) × (NeedsMore bytes → ⊥))
