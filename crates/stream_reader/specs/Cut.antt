-- A stream in its smallest pieces (docs/FORMATS.md, "Streams").
use Rattle.std.specs.Prelude.{◌≡◌, ℕ, List, [], ◌∷◌}
use Rattle.packet_codec.specs.declared.event.Event.{Event}
use Rattle.packet_codec.specs.Packet.{SpellsEvent}
use Rattle.packet_codec.specs.Grammar.{SpellsFront, NotFound}
use Rattle.packet_codec.specs.Header.{NeedsMore}

-- a packet of this event, or a foreign byte
pub data Piece : Type 0 where
  packet : Event → Piece
  foreign : ℕ → Piece

-- a packet of this event stands at the front, and then the rest
abbrev pub BeginsWithPacketOf : List ℕ → Event → List ℕ → Type 0
BeginsWithPacketOf = SpellsFront SpellsEvent

-- no front of the bytes is a packet
abbrev pub BeginsWithNone : List ℕ → Type 0
BeginsWithNone = NotFound SpellsEvent

-- the first byte, and then the rest
abbrev pub BeginsWithByte : List ℕ → ℕ → List ℕ → Type 0
BeginsWithByte bytes byte rest = bytes ≡ byte ∷ rest

-- The cut of a stream, read from the front. Where a packet stands, it is cut off; else one foreign byte is.
abbrev pub IsCut : List ℕ → List Piece → Type 0
IsCut bytes [] = bytes ≡ []
IsCut bytes (packet event ∷ pieces) = (rest : List ℕ) × BeginsWithPacketOf bytes event rest × IsCut rest pieces
IsCut bytes (foreign byte ∷ pieces) = (rest : List ℕ) × BeginsWithNone bytes × BeginsWithByte bytes byte rest × IsCut rest pieces

-- The same of the first bytes of a stream whose end is not known: it stops at the first place where more bytes are
-- needed to tell whether a packet stands there. Where no bytes are left, more are needed.
abbrev pub IsOpenCut : List ℕ → List Piece → Type 0
IsOpenCut bytes [] = NeedsMore bytes
IsOpenCut bytes (packet event ∷ pieces) = (rest : List ℕ) × BeginsWithPacketOf bytes event rest × IsOpenCut rest pieces
IsOpenCut bytes (foreign byte ∷ pieces) = (rest : List ℕ) × BeginsWithNone bytes × (NeedsMore bytes → ⊥) × BeginsWithByte bytes byte rest × IsOpenCut rest pieces
