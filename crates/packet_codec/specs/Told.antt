-- A packet whose parts were read and tested.
use Rattle.std.specs.Prelude.{ℕ, List}
use Rattle.packet_codec.specs.Grammar.{AreBytes}
use Rattle.packet_codec.specs.Packet.{IsPacket}
use Rattle.packet_codec.specs.Shapes.{HeaderStands, fields_at, Contents, FieldShapes, ShowsParts}
use Rattle.packet_codec.specs.declared.header.Header.{Header}
use Rattle.packet_codec.specs.declared.parts.Parts.{Parts}

-- the bytes are a packet, and these are its header and its fields
pub record IsTold (bytes : List ℕ) (header : Header) (parts : Parts) : Type 0 where
  pub are_bytes : AreBytes bytes
  pub stands : HeaderStands bytes header
  pub packet : IsPacket bytes
  pub contents : Contents
  pub shape : FieldShapes header.first header.second (fields_at header bytes) contents
  pub shown : ShowsParts parts contents
