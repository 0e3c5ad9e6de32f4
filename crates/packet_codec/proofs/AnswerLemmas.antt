-- What the front of some bytes looks like is one thing, and whether more bytes are needed can be told.
use Rattle.std.proofs.Common.{◌≡◌, ℕ, ◌+◌, ◌/◌, ◌%◌, ◌≤◌, ◌<◌, List, [], ◌∷◌, ◌++◌, length, get_or, drop, refl, inl, inr, sym, ap, ◌∙◌, append_assoc, arith}
use Rattle.std.proofs.lemmas.Bool.{cases_eq}
use Rattle.std.proofs.lemmas.List.{length-append, append-nil}
use Rattle.std.proofs.lemmas.List.Elements.{All-append}
use Rattle.sub_number.specs.Numbers.{SpellsNumber}
use Rattle.packet_codec.specs.Packet.{signature}
use Rattle.packet_codec.specs.Grammar.{AreBytes, SpellsFront}
use Rattle.packet_codec.specs.Header.{IsHeader, BeginsWithHeader, BeginsWithPacket, IsFrontOfHeader, NeedsMore, LooksLike}
use Rattle.packet_codec.specs.Shapes.{HeaderShape}
use Rattle.packet_codec.specs.declared.front.Front.{Front}
use Rattle.packet_codec.specs.declared.front.Front.TheVariants.{Packet, More, No}
use Rattle.packet_codec.proofs.GrammarLemmas.{fits_from_are, found_same}
use Rattle.packet_codec.proofs.HeaderLemmas.{header_free}
use Rattle.packet_codec.proofs.LookLemmas.{header_shape, front_says, front_of_none, front_of_one, front_of_two, front_of_three, front_of_size}
use Rattle.packet_codec.proofs.DecidedLemmas.{Decided, decided_as, decided_both, decided_less, decided_most, decided_parts}
use Rattle.packet_codec.proofs.SpelledLemmas.{decided_number, number_of, number_is}

-- ---- headers

pub header_found : (b : List ℕ) (size : ℕ) → (h : BeginsWithHeader b size) → SpellsFront HeaderShape b (h.3.first, (h.3.second, size)) h.1
header_found b size (h, rest, parts, s) = record { front = h; parts = parts; spelled = header_shape h size s }

pub one_size : (b : List ℕ) (n m : ℕ) → AreBytes b → BeginsWithHeader b n → BeginsWithHeader b m → n ≡ m
one_size b n m are h k = ap (λ (v : ℕ × (ℕ × ℕ)). v.1.1) (found_same HeaderShape header_free b _ _ _ _ (fits_from_are b are) (header_found b n h) (header_found b m k)).value

are_both : (front rest : List ℕ) → AreBytes front → AreBytes rest → AreBytes (front ++ rest)
are_both front rest are are' = All-append (λ byte. byte < 256) front rest are are'

whole_is_no_front : (b : List ℕ) (size : ℕ) → AreBytes b → BeginsWithHeader b size → IsFrontOfHeader b → ⊥
whole_is_no_front b size are (h, rest, parts, s) front =
    let longer : SpellsFront HeaderShape (b ++ front.rest) (s.first, (s.second, size)) (rest ++ front.rest) =
    record { front = h; parts = ap (λ (l : List ℕ). l ++ front.rest) parts ∙ append_assoc h rest front.rest; spelled = header_shape h size s } in
    let whole : SpellsFront HeaderShape (b ++ front.rest) (front.header.first, (front.header.second, front.size)) [] =
    record { front = b ++ front.rest; parts = sym (append-nil (b ++ front.rest)); spelled = header_shape _ front.size front.header } in
    let same = found_same HeaderShape header_free (b ++ front.rest) _ _ _ _ (fits_from_are (b ++ front.rest) (are_both b front.rest are front.are_bytes)) longer whole in
    omega (arith, front.some, ap length same.rest, length-append rest front.rest)

-- where a packet stands, no more bytes are needed
pub packet_needs_no_more : (b : List ℕ) (size : ℕ) → AreBytes b → BeginsWithPacket b size → NeedsMore b → ⊥
packet_needs_no_more b size are p (inl front) = whole_is_no_front b size are p.header front
packet_needs_no_more b size are p (inr (other, begins, less)) = omega (arith, one_size b size other are p.header begins, p.in_range)

pub one_front : (b : List ℕ) (one other : Front) → AreBytes b → LooksLike b one → LooksLike b other → one ≡ other
one_front b (Packet size) (Packet size') are p q = ap Packet (one_size b size size' are p.header q.header)
one_front b (Packet size) More are p more = absurd (packet_needs_no_more b size are p more)
one_front b (Packet size) No are p never = absurd (never.0 size p)
one_front b More (Packet size) are more p = absurd (packet_needs_no_more b size are p more)
one_front b More More are more more' = refl
one_front b More No are more never = absurd (never.1 more)
one_front b No (Packet size) are never p = absurd (never.0 size p)
one_front b No More are never more = absurd (never.1 more)
one_front b No No are never never' = refl

-- ---- whether more bytes are needed

-- a header whose size is more than this
abbrev Long : ℕ → List ℕ → Type 0
Long limit bytes = (size : ℕ) × (IsHeader bytes size × (limit < size))

no_long : (limit : ℕ) (bytes : List ℕ) → length bytes < 3 → Long limit bytes → ⊥
no_long limit bytes short (size, (h, more)) = omega (arith, short, ap length h.parts)

-- the same, test by test
abbrev LongTests : (limit a b c : ℕ) → List ℕ → Type 0
LongTests limit a b c number = (a ≡ signature) × ((b / 16 ≡ 2) × ((c / 8 % 2 ≡ 0) × ((length number ≤ 3) × ((3 + length number + 4 ≤ number_of number) × ((limit < number_of number) × SpellsNumber number (number_of number))))))

long_tests : (limit a b c : ℕ) (number : List ℕ) → Decided (LongTests limit a b c number)
long_tests limit a b c number =
    decided_both (cases_eq a signature) (decided_both (cases_eq (b / 16) 2) (decided_both (cases_eq (c / 8 % 2) 0) (decided_both (decided_most (length number) 3)
    (decided_both (decided_most (3 + length number + 4) (number_of number)) (decided_both (decided_less limit (number_of number)) (decided_number number (number_of number)))))))

long_from : (limit a b c : ℕ) (number : List ℕ) → LongTests limit a b c number → Long limit (a ∷ b ∷ c ∷ number)
long_from limit a b c number (is, (version, (zero_bit, (short, (room, (more, spells)))))) = (
  number_of number,
  (
    record { first = b; second = c; number = number; parts = ap (λ (n : ℕ). n ∷ b ∷ c ∷ number) is; version = version; zero_bit = zero_bit; size_spelled = spells; size_short = short; room = omega (arith, room) },
    more,
  ),
)

long_to : (limit a b c : ℕ) (number : List ℕ) → Long limit (a ∷ b ∷ c ∷ number) → LongTests limit a b c number
long_to limit a b c number (n, (h, more)) =
    let same : number ≡ h.number = ap (drop 3) h.parts in
    let spells : SpellsNumber number n = rw same h.size_spelled in
    let size-is : n ≡ number_of number = number_is number n spells in
    let short : length number ≤ 3 = rw same h.size_short in
    let first : b ≡ h.first = ap (λ (l : List ℕ). get_or l 1 0) h.parts in
    let second : c ≡ h.second = ap (λ (l : List ℕ). get_or l 2 0) h.parts in
    let room : 3 + length number + 4 ≤ number_of number = omega (arith, h.room, size-is) in
    let long : limit < number_of number = omega (arith, more, size-is) in
    (ap (λ (l : List ℕ). get_or l 0 0) h.parts, (rw first h.version, (rw second h.zero_bit, (short, (room, (long, rw (← size-is) spells))))))

read_long : (limit : ℕ) (bytes : List ℕ) → Decided (Long limit bytes)
read_long limit [] = inr (no_long limit [] (omega arith))
read_long limit (a ∷ []) = inr (no_long limit (a ∷ []) (omega arith))
read_long limit (a ∷ b ∷ []) = inr (no_long limit (a ∷ b ∷ []) (omega arith))
read_long limit (a ∷ b ∷ c ∷ number) = decided_as (long_from limit a b c number) (long_to limit a b c number) (long_tests limit a b c number)

decided_long : (bytes : List ℕ) → Decided ((size : ℕ) × BeginsWithHeader bytes size × (length bytes < size))
decided_long bytes =
    decided_as (λ p. (p.holds.0, (p.front, p.rest, p.parts, p.holds.1.0), p.holds.1.1)) (λ found. record { front = found.1.0; rest = found.1.1; parts = found.1.2; holds = (found.0, (found.1.3, found.2)) })
    (decided_parts (λ front rest. Long (length bytes) front) (λ front rest. read_long (length bytes) front) bytes)

decided_front : (bytes : List ℕ) → AreBytes bytes → Decided (IsFrontOfHeader bytes)
decided_front [] are = inl (front_of_none [] (omega arith))
decided_front (a ∷ []) are =
    decided_as (λ is. front_of_one (a ∷ []) (omega arith) (omega arith) is) (λ front. (front_says (a ∷ []) (fits_from_are (a ∷ []) are) front).signature_is (omega arith)) (cases_eq a signature)
decided_front (a ∷ b ∷ []) are =
    decided_as (λ is. front_of_two (a ∷ b ∷ []) (omega arith) (omega arith) is.0 is.1)
    (λ front. let says = front_says (a ∷ b ∷ []) (fits_from_are (a ∷ b ∷ []) are) front in (says.signature_is (omega arith), says.version (omega arith)))
    (decided_both (cases_eq a signature) (cases_eq (b / 16) 2))
decided_front (a ∷ b ∷ c ∷ []) are =
    decided_as (λ is. front_of_three (a ∷ b ∷ c ∷ []) (omega arith) (omega arith) is.0 is.1.0 is.1.1)
    (λ front. let says = front_says (a ∷ b ∷ c ∷ []) (fits_from_are (a ∷ b ∷ c ∷ []) are) front in (says.signature_is (omega arith), (says.version (omega arith), says.zero_bit (omega arith))))
    (decided_both (cases_eq a signature) (decided_both (cases_eq (b / 16) 2) (cases_eq (c / 8 % 2) 0)))
decided_front (a ∷ b ∷ c ∷ d ∷ more) are =
    let all : List ℕ = a ∷ b ∷ c ∷ d ∷ more in
    decided_as (λ is. front_of_size all (fits_from_are all are) (omega arith) is.0 is.1.0 is.1.1.0 is.1.1.1.0 is.1.1.1.1)
    (λ front. let says = front_says all (fits_from_are all are) front in
    (says.signature_is (omega arith), (says.version (omega arith), (says.zero_bit (omega arith), (says.narrow (omega arith), says.not_whole (omega arith))))))
    (decided_both (cases_eq a signature) (decided_both (cases_eq (b / 16) 2) (decided_both (cases_eq (c / 8 % 2) 0) (decided_both (decided_most (d / 64) 2) (decided_most (length all) (3 + d / 64))))))

pub decided_more : (bytes : List ℕ) → AreBytes bytes → Decided (NeedsMore bytes)
decided_more bytes are = one_of (decided_front bytes are) (decided_long bytes)
  where
    one_of : Decided (IsFrontOfHeader bytes) → Decided ((size : ℕ) × BeginsWithHeader bytes size × (length bytes < size)) → Decided (NeedsMore bytes)
    one_of (inl front) other = inl (inl front)
    one_of (inr never) (inl long) = inl (inr long)
    one_of (inr never) (inr never') = inr neither
      where
        neither : NeedsMore bytes → ⊥
        neither (inl front) = never front
        neither (inr long) = never' long
