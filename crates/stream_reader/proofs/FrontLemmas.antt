-- What stands at the front of a stream, whatever follows.
use Rattle.std.proofs.Common.{◌≡◌, ◌⊎◌, ℕ, ◌≤◌, ◌<◌, List, [], ◌∷◌, ◌++◌, length, get_or, take, drop, refl, inl, inr, sym, ap, ◌∙◌, append_assoc, arith}
use Rattle.std.specs.Prelude.{is_some}
use Rattle.std.specs.Int.{w32, to_be_bytes}
use Rattle.std.proofs.lemmas.Bool.{cases_lt}
use Rattle.std.proofs.lemmas.List.{length-append, length-drop, take-append-drop, take-append-le, drop-append-le, take_at, drop_at, append_cancel_left}
use Rattle.std.proofs.lemmas.List.Elements.{All-append, All-take, All-drop, All-from_get_or}
use Rattle.sub_number.specs.Checksum.{crc32}
use Rattle.sub_number.proofs.NumberLemmas as fits
use Rattle.packet_codec.specs.declared.event.Event.{Event}
use Rattle.packet_codec.specs.Flags.{first_flags, second_flags}
use Rattle.packet_codec.specs.Packet.{signature, SpellsEvent}
use Rattle.packet_codec.specs.Grammar.{AreBytes, SpellsFront}
use Rattle.packet_codec.specs.Header.{BeginsWithHeader, BeginsWithPacket, IsFrontOfHeader, NeedsMore}
use Rattle.packet_codec.proofs.FlagLemmas.{first_bits, second_bits}
use Rattle.packet_codec.proofs.GrammarLemmas.{fits_from_are}
use Rattle.packet_codec.proofs.AnswerLemmas.{packet_needs_no_more}
use Rattle.packet_codec.proofs.PacketLemmas.{no_front, one_event}
use Rattle.stream_reader.specs.Cut.{BeginsWithPacketOf, BeginsWithNone}

-- ---- lists of bytes

-- a slice of bytes tells it by index
pub are_from_fits : (bytes : List ℕ) → fits.AreBytes bytes → AreBytes bytes
are_from_fits bytes are = All-from_get_or (λ byte. byte < 256) bytes 0 (λ i below. omega (arith, are i))

pub are_before : (front rest : List ℕ) → AreBytes (front ++ rest) → AreBytes front
are_before front rest are = rw (take_at front rest (length front) refl) at (All-take (λ byte. byte < 256) (length front) (front ++ rest) are)

pub are_behind : (front rest : List ℕ) → AreBytes (front ++ rest) → AreBytes rest
are_behind front rest are = rw (drop_at front rest (length front) refl) at (All-drop (λ byte. byte < 256) (length front) (front ++ rest) are)

pub are_both : (front rest : List ℕ) → AreBytes front → AreBytes rest → AreBytes (front ++ rest)
are_both front rest are are' = All-append (λ byte. byte < 256) front rest are are'

pub are_dropped : (n : ℕ) (bytes : List ℕ) → AreBytes bytes → AreBytes (drop n bytes)
are_dropped n bytes are = All-drop (λ byte. byte < 256) n bytes are

-- of two fronts of one list the longer begins with the shorter
split_front : (a r b x : List ℕ) → a ++ r ≡ b ++ x → length a ≤ length b → b ≡ a ++ drop (length a) b
split_front a r b x e le =
    let front : take (length a) b ≡ a = sym (take-append-le (length a) b x le) ∙ ap (take (length a)) (sym e) ∙ take_at a r (length a) refl in
    sym (take-append-drop (length a) b) ∙ ap (λ (l : List ℕ). l ++ drop (length a) b) front

-- ---- headers

header_longer : (b c more : List ℕ) (size : ℕ) → c ≡ b ++ more → BeginsWithHeader b size → BeginsWithHeader c size
header_longer b c more size e (h, rest, parts, s) = (h, rest ++ more, e ∙ ap (λ (l : List ℕ). l ++ more) parts ∙ append_assoc h rest more, s)

-- the header of a longer list stands in a shorter one, whole or in part
header_shorter : (b more : List ℕ) (size : ℕ) → AreBytes more → BeginsWithHeader (b ++ more) size → BeginsWithHeader b size ⊎ IsFrontOfHeader b
header_shorter b more size are (h, rest, parts, s) = elim (cases_lt (length b) (length h)) [
  | inl less ↦ inr (part less)
  | inr le ↦ inl (h, drop (length h) b, split_front h rest b more (sym parts) le, s)
]
  where
    part : length b < length h → IsFrontOfHeader b
    part less =
        let whole : h ≡ b ++ drop (length b) h = split_front b more h rest parts (omega arith) in
        let tail : drop (length b) h ++ rest ≡ more = sym (drop-append-le (length b) h rest (omega arith)) ∙ ap (drop (length b)) (sym parts) ∙ drop_at b more (length b) refl in
        let are' : AreBytes (drop (length b) h ++ rest) = rw tail are in
        record {
          rest = drop (length b) h;
          size = size;
          some = omega (arith, length-drop (length b) h);
          are_bytes = are_before (drop (length b) h) rest are';
          header = rw (← whole) s;
        }

-- ---- packets

packet_header : (p : List ℕ) (e : Event) → SpellsEvent p e → BeginsWithHeader p (length p)
packet_header p e s =
    let header : List ℕ = signature ∷ first_flags e ∷ second_flags e ∷ s.size in
    let whole : p ≡ header ++ (s.fields ++ to_be_bytes w32 (crc32 s.body)) = s.parts ∙ ap (λ (l : List ℕ). l ++ to_be_bytes w32 (crc32 s.body)) s.body_is ∙ append_assoc header s.fields (to_be_bytes w32 (crc32 s.body)) in (
      header,
      s.fields ++ to_be_bytes w32 (crc32 s.body),
      whole,
      record {
        first = first_flags e;
        second = second_flags e;
        number = s.size;
        parts = refl;
        version = (first_bits (is_some e.id) (is_some e.route) (is_some e.stamp) e.runnable (first_flags e) refl).version;
        zero_bit = (second_bits (is_some e.tags) (is_some e.file) (is_some e.mime) e.eof e.status (second_flags e) refl).zero_bit;
        size_spelled = s.size_spelled;
        size_short = s.size_short;
        room = omega (arith, ap length whole, length-append header (s.fields ++ to_be_bytes w32 (crc32 s.body)), length-append s.fields (to_be_bytes w32 (crc32 s.body)));
      },
    )

pub packet_some : (p : List ℕ) (e : Event) → SpellsEvent p e → 0 < length p
packet_some p e s = let h = packet_header p e s in omega (arith, h.3.room)

found_begins : (b rest : List ℕ) (e : Event) → (f : SpellsFront SpellsEvent b e rest) → BeginsWithPacket b (length f.front)
found_begins b rest e f = begins f.front f.parts f.spelled
  where
    begins : (front : List ℕ) → b ≡ front ++ rest → SpellsEvent front e → BeginsWithPacket b (length front)
    begins front parts spelled =
        let is : take (length front) b ≡ front = ap (take (length front)) parts ∙ take_at front rest (length front) refl in
        record {
          header = header_longer front b rest (length front) parts (packet_header front e spelled);
          in_range = omega (arith, ap length parts, length-append front rest);
          packet = (e, rw is spelled);
        }

pub begins_found : (b : List ℕ) (size : ℕ) → (p : BeginsWithPacket b size) → BeginsWithPacketOf b p.packet.0 (drop size b)
begins_found b size p = record { front = take size b; parts = sym (take-append-drop size b); spelled = p.packet.1 }

pub none_found : (b : List ℕ) → ((size : ℕ) → BeginsWithPacket b size → ⊥) → BeginsWithNone b
none_found b none e rest f = none _ (found_begins b rest e f)

pub found_none : (b : List ℕ) → BeginsWithNone b → (size : ℕ) → BeginsWithPacket b size → ⊥
found_none b none size p = none p.packet.0 (drop size b) (begins_found b size p)

pub found_longer : (b rest more : List ℕ) (e : Event) → BeginsWithPacketOf b e rest → BeginsWithPacketOf (b ++ more) e (rest ++ more)
found_longer b rest more e f = record { front = f.front; parts = ap (λ (l : List ℕ). l ++ more) f.parts ∙ append_assoc f.front rest more; spelled = f.spelled }

pub packet_longer : (b more : List ℕ) (size : ℕ) → BeginsWithPacket b size → BeginsWithPacket (b ++ more) size
packet_longer b more size p = record {
  header = header_longer b (b ++ more) more size refl p.header;
  in_range = omega (arith, p.in_range, length-append b more);
  packet = (p.packet.0, rw (take-append-le size b more p.in_range) p.packet.1);
}

pub found_needs_no_more : (b rest : List ℕ) (e : Event) → AreBytes b → BeginsWithPacketOf b e rest → NeedsMore b → ⊥
found_needs_no_more b rest e are f more = packet_needs_no_more b _ are (found_begins b rest e f) more

-- what no packet stands at, and needs no more bytes to tell it, is so whatever follows
pub stays_none : (b more : List ℕ) → AreBytes more → ((size : ℕ) → BeginsWithPacket b size → ⊥) → (NeedsMore b → ⊥) → (size : ℕ) → BeginsWithPacket (b ++ more) size → ⊥
stays_none b more are none closed size p = elim (header_shorter b more size are p.header) [
  | inl begins ↦ elim (cases_lt (length b) size) [
    | inl less ↦ closed (inr (size, begins, less))
    | inr le ↦ none size (record { header = begins; in_range = le; packet = (p.packet.0, rw (take-append-le size b more le) at p.packet.1) })
  ]
  | inr front ↦ closed (inl front)
]

pub stays_closed : (b more : List ℕ) → AreBytes more → (NeedsMore b → ⊥) → NeedsMore (b ++ more) → ⊥
stays_closed b more are closed (inl front) = closed (inl (record {
  rest = more ++ front.rest;
  size = front.size;
  some = omega (arith, front.some, length-append more front.rest);
  are_bytes = are_both more front.rest are front.are_bytes;
  header = rw (← append_assoc b more front.rest) front.header;
}))
stays_closed b more are closed (inr (size, begins, less)) = elim (header_shorter b more size are begins) [
  | inl begins' ↦ closed (inr (size, begins', omega (arith, length-append b more)))
  | inr front ↦ closed (inl front)
]

-- ---- one packet

pub one_found : (b rest rest' : List ℕ) (e e' : Event) → AreBytes b → BeginsWithPacketOf b e rest → BeginsWithPacketOf b e' rest' → (e ≡ e') × (rest ≡ rest')
one_found b rest rest' e e' are f f' = one f.front f'.front f.parts f'.parts f.spelled f'.spelled
  where
    one : (a a' : List ℕ) → b ≡ a ++ rest → b ≡ a' ++ rest' → SpellsEvent a e → SpellsEvent a' e' → (e ≡ e') × (rest ≡ rest')
    one a a' p p' s s' =
        let are_a = fits_from_are a (are_before a rest (rw p at are)) in
        let are_a' = fits_from_are a' (are_before a' rest' (rw p' at are)) in
        let same : a ≡ a' = no_front a a' rest rest' e e' are_a are_a' s s' (sym p ∙ p') in
        let t : SpellsEvent a e' = rw same s' in
        (one_event a e e' are_a s t, append_cancel_left a rest rest' (sym p ∙ p' ∙ ap (λ (l : List ℕ). l ++ rest') (sym same)))

-- ---- the first byte

pub header_first : (b : List ℕ) (size : ℕ) → BeginsWithHeader b size → get_or b 0 0 ≡ signature
header_first b size (h, rest, parts, s) = ap (λ (l : List ℕ). get_or l 0 0) (parts ∙ ap (λ (l : List ℕ). l ++ rest) s.parts)

pub front_first : (b : List ℕ) → 0 < length b → IsFrontOfHeader b → get_or b 0 0 ≡ signature
front_first [] some front = absurd (omega arith)
front_first (byte ∷ b) some front = ap (λ (l : List ℕ). get_or l 0 0) front.header.parts
