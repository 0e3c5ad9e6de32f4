-- Which bytes are a packet of which event (the Subunit README, "Packet format").
use Rattle.std.specs.Prelude.{◌≡◌, ℕ, ◌≤◌, List, ◌∷◌, ◌++◌, length}
use Rattle.std.specs.Int.{w32, to_be_bytes}
use Rattle.sub_number.specs.Numbers.{SpellsNumber}
use Rattle.sub_number.specs.Checksum.{crc32}
use Rattle.packet_codec.specs.declared.event.Event.{Event}
use Rattle.packet_codec.specs.Flags.{first_flags, second_flags}
use Rattle.packet_codec.specs.Fields.{SpellsFields}

-- the byte that each packet begins with
abbrev pub signature : ℕ
signature = 0xb3

-- The signature, the flags, the length of the whole list in at most three bytes, the fields, and the checksum of all of that.
pub record SpellsEvent (bytes : List ℕ) (e : Event) : Type 0 where
  pub size : List ℕ
  pub fields : List ℕ
  pub body : List ℕ
  pub body_is : body ≡ signature ∷ first_flags e ∷ second_flags e ∷ size ++ fields
  pub parts : bytes ≡ body ++ to_be_bytes w32 (crc32 body)
  pub size_spelled : SpellsNumber size (length bytes)
  pub size_short : length size ≤ 3
  pub fields_spelled : SpellsFields fields e

-- some event is spelled
abbrev pub IsPacket : List ℕ → Type 0
IsPacket bytes = (e : Event) × SpellsEvent bytes e
