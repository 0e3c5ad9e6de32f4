-- A packet that stands at the front of some bytes is as long as the header tells that was read there.
use Rattle.std.proofs.Common.{◌≡◌, ℕ, ◌≤◌, ◌<◌, List, ◌++◌, length, take, drop, sym, ap, ◌∙◌, append_assoc, subst, arith}
use Rattle.std.specs.Int.{w32, to_be_bytes}
use Rattle.std.proofs.lemmas.List.{take_at, take-append-drop, length-append, length-take-le}
use Rattle.sub_number.specs.Checksum.{crc32}
use Rattle.sub_number.proofs.NumberLemmas.{AreBytes}
use Rattle.packet_codec.specs.declared.event.Event.{Event}
use Rattle.packet_codec.specs.declared.header.Header.{Header}
use Rattle.packet_codec.specs.Flags.{first_flags, second_flags}
use Rattle.packet_codec.specs.Packet.{SpellsEvent, IsPacket}
use Rattle.packet_codec.specs.Grammar.{SpellsFront, NotFound}
use Rattle.packet_codec.specs.Header.{BeginsWithPacket}
use Rattle.packet_codec.specs.Shapes.{HeaderShape, HeaderStands}
use Rattle.packet_codec.proofs.GrammarLemmas.{found_same}
use Rattle.packet_codec.proofs.HeaderLemmas.{header_free}
use Rattle.packet_codec.proofs.PacketLemmas.{header_found, room_of, spelled_header}

-- where a packet stands, it is one of some event, with some bytes behind it
pub packet_there : (p : List ℕ) (size : ℕ) → BeginsWithPacket p size → (event : Event) × (behind : List ℕ) × SpellsFront SpellsEvent p event behind
packet_there p size begins = (begins.packet.0, drop size p, record { front = take size p; parts = sym (take-append-drop size p); spelled = begins.packet.1 })

module _ (p : List ℕ) (e : Event) (rest : List ℕ) (f : SpellsFront SpellsEvent p e rest) where
  -- its header is the one that the bytes begin with
  header_of : SpellsFront HeaderShape p (first_flags e, (second_flags e, length f.front)) ((f.spelled.fields ++ to_be_bytes w32 (crc32 f.spelled.body)) ++ rest)
  header_of =
      let h = spelled_header f.front e f.spelled in
      record { front = h.front; parts = f.parts ∙ ap (λ (l : List ℕ). l ++ rest) h.parts ∙ append_assoc h.front (f.spelled.fields ++ to_be_bytes w32 (crc32 f.spelled.body)) rest; spelled = h.spelled }

  pub stands_there : NotFound HeaderShape p → ⊥
  stands_there never = never _ _ header_of

  module _ (header : Header) (are : AreBytes p) (stands : HeaderStands p header) where
    pub front_size : header.size ≡ length f.front
    front_size = ap (λ (v : ℕ × (ℕ × ℕ)). v.1.1) (found_same HeaderShape header_free p _ _ _ _ are (header_found p header stands) header_of).value

    pub front_in_range : header.size ≤ length p
    front_in_range = omega (arith, front_size, ap length f.parts, length-append f.front rest)

    pub front_some : 0 < header.size
    front_some = omega (arith, room_of p header stands)

    pub front_length : length (take header.size p) ≡ header.size
    front_length = length-take-le header.size p front_in_range

    -- its bytes are as many of the first ones
    pub front_is : take header.size p ≡ f.front
    front_is = ap (take header.size) f.parts ∙ take_at f.front rest header.size (sym front_size)

    front_spelled : SpellsEvent (take header.size p) e
    front_spelled = subst (λ (l : List ℕ). SpellsEvent l e) (sym front_is) f.spelled

    -- they are a packet
    pub front_packet : IsPacket (take header.size p)
    front_packet = (e, front_spelled)
