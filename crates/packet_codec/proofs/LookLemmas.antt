-- What the header tells of the front of some bytes.
use Rattle.std.proofs.Common.{◌≡◌, ℕ, ◌+◌, ◌-◌, ◌*◌, ◌/◌, ◌%◌, ◌≤◌, ◌<◌, Bool, false, List, [], ◌∷◌, ◌++◌, length, get_or, take, drop, refl, inl, inr, sym, ap, ◌∙◌, append_assoc, arith}
use Rattle.std.specs.Prelude.{IsTrue, ◌↔◌}
use Rattle.std.proofs.lemmas.Bool.{cases_lt}
use Rattle.std.proofs.lemmas.List.{length-append, length-take-le, get_or_append_left, get_or-append_right, get_or-drop, append-nil}
use Rattle.std.proofs.lemmas.List.Elements.{All-nil, All-cons}
use Rattle.sub_number.specs.Numbers.{SpellsNumber}
use Rattle.sub_number.proofs.NumberLemmas.{AreBytes, length_from_first}
use Rattle.packet_codec.specs.declared.header.Header.{Header}
use Rattle.packet_codec.specs.Grammar as grammar
use Rattle.packet_codec.specs.Grammar.{SpellsFront, NotFound}
use Rattle.packet_codec.specs.Packet.{signature, IsPacket}
use Rattle.packet_codec.specs.Header.{IsHeader, BeginsWithHeader, BeginsWithPacket, IsFrontOfHeader, NeedsMore}
use Rattle.packet_codec.specs.Shapes.{HeaderShape, HeaderStands}
use Rattle.packet_codec.specs.Sight.{BeginsWithThis}
use Rattle.packet_codec.proofs.GrammarLemmas.{fits_from_are, found_same}
use Rattle.packet_codec.proofs.HeaderLemmas.{header_free}
use Rattle.packet_codec.proofs.PacketLemmas.{header_found}
use Rattle.packet_codec.proofs.RunsLeft.{answers_no}

pub header_shape : (h : List ℕ) (size : ℕ) → (s : IsHeader h size) → HeaderShape h (s.first, (s.second, size))
header_shape h size s = record { number = s.number; parts = s.parts; version = s.version; zero_bit = s.zero_bit; size_spelled = s.size_spelled; size_short = s.size_short; room = s.room }

is_header : (h : List ℕ) (v : ℕ × (ℕ × ℕ)) → HeaderShape h v → IsHeader h v.1.1
is_header h v s = record { first = v.0; second = v.1.0; number = s.number; parts = s.parts; version = s.version; zero_bit = s.zero_bit; size_spelled = s.size_spelled; size_short = s.size_short; room = s.room }

pub header_begins : (p : List ℕ) (header : Header) → HeaderStands p header → BeginsWithHeader p header.size
unfolding header_found
header_begins p header stands = let found = header_found p header stands in (found.front, drop header.start p, found.parts, is_header found.front _ found.spelled)

begins_found : (p : List ℕ) (size : ℕ) → (b : BeginsWithHeader p size) → SpellsFront HeaderShape p (b.3.first, (b.3.second, size)) b.1
begins_found p size (h, rest, parts, s) = record { front = h; parts = parts; spelled = header_shape h size s }

-- the size of the header that was read is that of any header
same_size : (p : List ℕ) (header : Header) (size : ℕ) → AreBytes p → HeaderStands p header → BeginsWithHeader p size → size ≡ header.size
same_size p header size are stands begins =
    ap (λ (v : ℕ × (ℕ × ℕ)). v.1.1) (found_same HeaderShape header_free p _ _ _ _ are (begins_found p size begins) (header_found p header stands)).value

are_append : (p rest : List ℕ) → AreBytes p → AreBytes rest → AreBytes (p ++ rest)
are_append p rest are are' i = elim (cases_lt i (length p)) [
  | inl below ↦ rw (get_or_append_left p rest 0 i below) (are i)
  | inr past ↦ rw (get_or-append_right p rest (length p) i 0 refl past) (are' (i - length p))
]

-- a whole header is not the front of one
whole_is_no_front : (p : List ℕ) (header : Header) → AreBytes p → HeaderStands p header → IsFrontOfHeader p → ⊥
unfolding header_found
whole_is_no_front p header are stands front =
    let found = header_found p header stands in
    let longer : SpellsFront HeaderShape (p ++ front.rest) (header.first, (header.second, header.size)) (drop header.start p ++ front.rest) =
    record { front = found.front; parts = ap (λ (l : List ℕ). l ++ front.rest) found.parts ∙ append_assoc found.front (drop header.start p) front.rest; spelled = found.spelled } in
    let whole : SpellsFront HeaderShape (p ++ front.rest) (front.header.first, (front.header.second, front.size)) [] =
    record { front = p ++ front.rest; parts = sym (append-nil (p ++ front.rest)); spelled = header_shape _ front.size front.header } in
    let same = found_same HeaderShape header_free (p ++ front.rest) _ _ _ _ (are_append p front.rest are (fits_from_are front.rest front.are_bytes)) longer whole in
    omega (arith, front.some, ap length same.rest, length-append (drop header.start p) front.rest)

-- ---- where a header was read

pub needs_more : (p : List ℕ) (header : Header) → HeaderStands p header → length p < header.size → NeedsMore p
needs_more p header stands less = inr (header.size, header_begins p header stands, less)

pub is_front_packet : (p packet : List ℕ) (header : Header) → HeaderStands p header → header.size ≤ length p → packet ≡ take header.size p → IsPacket (take header.size p) → BeginsWithThis p packet
is_front_packet p packet header stands in_range front is =
    let size : length packet ≡ header.size = ap length front ∙ length-take-le header.size p in_range in
    record {
      begins = rw size (record { header = header_begins p header stands; in_range = in_range; packet = is });
      front = rw size front;
    }

pub is_no_packet : (p : List ℕ) (header : Header) → AreBytes p → HeaderStands p header → header.size ≤ length p → (IsPacket (take header.size p) → ⊥) → ((size : ℕ) → BeginsWithPacket p size → ⊥) × (NeedsMore p → ⊥)
is_no_packet p header are stands in_range never = (
  λ size b. let size-is = same_size p header size are stands b.header in never (rw size-is at b.packet),
  never_more,
)
  where
    never_more : NeedsMore p → ⊥
    never_more (inl front) = whole_is_no_front p header are stands front
    never_more (inr (size, begins, less)) = omega (arith, same_size p header size are stands begins)

-- ---- where none was read

pub is_no_header : (p : List ℕ) → NotFound HeaderShape p → (IsFrontOfHeader p → ⊥) → ((size : ℕ) → BeginsWithPacket p size → ⊥) × (NeedsMore p → ⊥)
is_no_header p never other = (λ size b. never _ _ (begins_found p size b.header), never_more)
  where
    never_more : NeedsMore p → ⊥
    never_more (inl front) = other front
    never_more (inr (size, begins, less)) = never _ _ (begins_found p size begins)

-- ---- the front of a header

-- each byte that is there is one of a header, and one at least is not there
pub record FrontSays (p : List ℕ) : Type 0 where
  pub signature_is : 0 < length p → get_or p 0 0 ≡ signature
  pub version : 1 < length p → get_or p 1 0 / 16 ≡ 2
  pub zero_bit : 2 < length p → get_or p 2 0 / 8 % 2 ≡ 0
  pub narrow : 3 < length p → get_or p 3 0 / 64 ≤ 2
  pub not_whole : 3 < length p → length p ≤ 3 + get_or p 3 0 / 64

pub front_says : (p : List ℕ) → AreBytes p → IsFrontOfHeader p → FrontSays p
front_says p are front =
    let h = front.header in
    let at : (i : ℕ) → i < length p → get_or p i 0 ≡ get_or (signature ∷ h.first ∷ h.second ∷ h.number) i 0 = λ i below. sym (get_or_append_left p front.rest 0 i below) ∙ ap (λ (l : List ℕ). get_or l i 0) h.parts in
    let number : h.number ≡ drop 3 (p ++ front.rest) = ap (drop 3) (sym h.parts) in
    let are_number : AreBytes h.number = rw number (λ i. rw get_or-drop (are_append p front.rest are (fits_from_are front.rest front.are_bytes) (3 + i))) in
    let width : length h.number ≡ get_or h.number 0 0 / 64 + 1 = length_from_first h.number front.size are_number h.size_spelled in
    let len : length p + length front.rest ≡ 3 + length h.number = sym (length-append p front.rest) ∙ ap length h.parts ∙ omega arith in
    record {
      signature_is = λ there. at 0 there;
      version = λ there. ap (λ (n : ℕ). n / 16) (at 1 there) ∙ h.version;
      zero_bit = λ there. ap (λ (n : ℕ). n / 8 % 2) (at 2 there) ∙ h.zero_bit;
      narrow = λ there. let n : get_or p 3 0 ≡ get_or h.number 0 0 = at 3 there in omega (arith, h.size_short);
      not_whole = λ there. let n : get_or p 3 0 ≡ get_or h.number 0 0 = at 3 there in omega (arith, front.some);
    }

spells_eight : SpellsNumber (8 ∷ []) 8
spells_eight = record { some = omega arith; few = omega arith; fits = omega arith; digits = refl }

spells_two : (a b : ℕ) → a / 64 ≡ 1 → b < 256 → SpellsNumber (a ∷ b ∷ []) (a % 64 * 256 + b)
spells_two a b top byte = record { some = omega arith; few = omega arith; fits = omega arith; digits = omega arith }

spells_three : (a b c : ℕ) → a / 64 ≡ 2 → b < 256 → c < 256 → SpellsNumber (a ∷ b ∷ c ∷ []) (a % 64 * 65536 + b * 256 + c)
spells_three a b c top byte byte' = record { some = omega arith; few = omega arith; fits = omega arith; digits = omega arith }

eight_bytes : (p rest : List ℕ) (first second : ℕ) → p ++ rest ≡ signature ∷ first ∷ second ∷ 8 ∷ [] → first / 16 ≡ 2 → second / 8 % 2 ≡ 0 → 0 < length rest → grammar.AreBytes rest → IsFrontOfHeader p
eight_bytes p rest first second e version zero_bit some are = record {
  rest = rest;
  size = 8;
  some = some;
  are_bytes = are;
  header = record { first = first; second = second; number = 8 ∷ []; parts = e; version = version; zero_bit = zero_bit; size_spelled = spells_eight; size_short = omega arith; room = omega (arith, ap length e) };
}

one_byte : (a : ℕ) → a < 256 → grammar.AreBytes (a ∷ [])
one_byte a less = All-cons (λ byte. byte < 256) a [] less (All-nil (λ byte. byte < 256))

and_byte : (a : ℕ) (bytes : List ℕ) → a < 256 → grammar.AreBytes bytes → grammar.AreBytes (a ∷ bytes)
and_byte a bytes less are = All-cons (λ byte. byte < 256) a bytes less are

pub front_of_none : (p : List ℕ) → length p ≤ 0 → IsFrontOfHeader p
front_of_none [] none = eight_bytes [] (signature ∷ 32 ∷ 0 ∷ 8 ∷ []) 32 0 refl refl refl (omega arith) (and_byte signature (32 ∷ 0 ∷ 8 ∷ []) (omega arith) (and_byte 32 (0 ∷ 8 ∷ []) (omega arith) (and_byte 0 (8 ∷ []) (omega arith) (one_byte 8 (omega arith)))))
front_of_none (a ∷ p) none = absurd (omega arith)

pub front_of_one : (p : List ℕ) → 0 < length p → length p ≤ 1 → get_or p 0 0 ≡ signature → IsFrontOfHeader p
front_of_one [] some few is = absurd (omega arith)
front_of_one (a ∷ []) some few is = eight_bytes (a ∷ []) (32 ∷ 0 ∷ 8 ∷ []) 32 0 (ap (λ (n : ℕ). n ∷ 32 ∷ 0 ∷ 8 ∷ []) is) refl refl (omega arith) (and_byte 32 (0 ∷ 8 ∷ []) (omega arith) (and_byte 0 (8 ∷ []) (omega arith) (one_byte 8 (omega arith))))
front_of_one (a ∷ b ∷ p) some few is = absurd (omega arith)

pub front_of_two : (p : List ℕ) → 1 < length p → length p ≤ 2 → get_or p 0 0 ≡ signature → get_or p 1 0 / 16 ≡ 2 → IsFrontOfHeader p
front_of_two [] some few is version = absurd (omega arith)
front_of_two (a ∷ []) some few is version = absurd (omega arith)
front_of_two (a ∷ b ∷ []) some few is version = eight_bytes (a ∷ b ∷ []) (0 ∷ 8 ∷ []) b 0 (ap (λ (n : ℕ). n ∷ b ∷ 0 ∷ 8 ∷ []) is) version refl (omega arith) (and_byte 0 (8 ∷ []) (omega arith) (one_byte 8 (omega arith)))
front_of_two (a ∷ b ∷ c ∷ p) some few is version = absurd (omega arith)

pub front_of_three : (p : List ℕ) → 2 < length p → length p ≤ 3 → get_or p 0 0 ≡ signature → get_or p 1 0 / 16 ≡ 2 → get_or p 2 0 / 8 % 2 ≡ 0 → IsFrontOfHeader p
front_of_three [] some few is version zero_bit = absurd (omega arith)
front_of_three (a ∷ []) some few is version zero_bit = absurd (omega arith)
front_of_three (a ∷ b ∷ []) some few is version zero_bit = absurd (omega arith)
front_of_three (a ∷ b ∷ c ∷ []) some few is version zero_bit = eight_bytes (a ∷ b ∷ c ∷ []) (8 ∷ []) b c (ap (λ (n : ℕ). n ∷ b ∷ c ∷ 8 ∷ []) is) version zero_bit (omega arith) (one_byte 8 (omega arith))
front_of_three (a ∷ b ∷ c ∷ d ∷ p) some few is version zero_bit = absurd (omega arith)

-- a width of which not all bytes are there
pub front_of_size : (p : List ℕ) → AreBytes p → 3 < length p → get_or p 0 0 ≡ signature → get_or p 1 0 / 16 ≡ 2 → get_or p 2 0 / 8 % 2 ≡ 0 → get_or p 3 0 / 64 ≤ 2 → length p ≤ 3 + get_or p 3 0 / 64 → IsFrontOfHeader p
front_of_size [] are some is version zero_bit narrow part = absurd (omega arith)
front_of_size (a ∷ []) are some is version zero_bit narrow part = absurd (omega arith)
front_of_size (a ∷ b ∷ []) are some is version zero_bit narrow part = absurd (omega arith)
front_of_size (a ∷ b ∷ c ∷ []) are some is version zero_bit narrow part = absurd (omega arith)
front_of_size (a ∷ b ∷ c ∷ d ∷ []) are some is version zero_bit narrow part = elim (cases_lt (d / 64) 2) [
  | inl one ↦ record {
    rest = 255 ∷ [];
    size = d % 64 * 256 + 255;
    some = omega arith;
    are_bytes = one_byte 255 (omega arith);
    header = record { first = b; second = c; number = d ∷ 255 ∷ []; parts = ap (λ (n : ℕ). n ∷ b ∷ c ∷ d ∷ 255 ∷ []) is; version = version; zero_bit = zero_bit; size_spelled = spells_two d 255 (omega arith) (omega arith); size_short = omega arith; room = omega arith };
  }
  | inr two ↦ record {
    rest = 255 ∷ 255 ∷ [];
    size = d % 64 * 65536 + 255 * 256 + 255;
    some = omega arith;
    are_bytes = and_byte 255 (255 ∷ []) (omega arith) (one_byte 255 (omega arith));
    header = record { first = b; second = c; number = d ∷ 255 ∷ 255 ∷ []; parts = ap (λ (n : ℕ). n ∷ b ∷ c ∷ d ∷ 255 ∷ 255 ∷ []) is; version = version; zero_bit = zero_bit; size_spelled = spells_three d 255 255 (omega arith) (omega arith) (omega arith); size_short = omega arith; room = omega arith };
  }
]
front_of_size (a ∷ b ∷ c ∷ d ∷ e ∷ []) are some is version zero_bit narrow part = record {
  rest = 255 ∷ [];
  size = d % 64 * 65536 + e * 256 + 255;
  some = omega arith;
  are_bytes = one_byte 255 (omega arith);
  header = record { first = b; second = c; number = d ∷ e ∷ 255 ∷ []; parts = ap (λ (n : ℕ). n ∷ b ∷ c ∷ d ∷ e ∷ 255 ∷ []) is; version = version; zero_bit = zero_bit; size_spelled = spells_three d e 255 (omega arith) (omega (arith, are 4)) (omega arith); size_short = omega arith; room = omega arith };
}
front_of_size (a ∷ b ∷ c ∷ d ∷ e ∷ f ∷ p) are some is version zero_bit narrow part = absurd (omega arith)

pub size_tells : (p : List ℕ) (extra : ℕ) (answer : Bool) → AreBytes p → 3 < length p → get_or p 0 0 ≡ signature → get_or p 1 0 / 16 ≡ 2 → get_or p 2 0 / 8 % 2 ≡ 0 → extra ≡ get_or p 3 0 / 64 → extra ≤ 2 → (IsTrue answer ↔ length p ≤ 3 + extra) → IsTrue answer ↔ IsFrontOfHeader p
size_tells p extra answer are some is version zero_bit extra-is narrow tests =
    (λ t. let part = tests.0 t in front_of_size p are some is version zero_bit (omega arith) (omega arith), λ front. let says = front_says p are front in tests.1 (omega (arith, says.not_whole)))

pub too_wide : (p : List ℕ) (extra : ℕ) (answer : Bool) → AreBytes p → 3 < length p → extra ≡ get_or p 3 0 / 64 → 2 < extra → answer ≡ false → IsTrue answer ↔ IsFrontOfHeader p
too_wide p extra answer are some extra-is wide is_not =
    rw is_not (answers_no (λ front. let says = front_says p are front in omega (arith, says.narrow some)))
