-- The events of drawn tests, and that they have packets.
use Rattle.std.proofs.Common.{◌≡◌, ◌≢◌, ℕ, ◌+◌, ◌<◌, ◌≤◌, ◌^◌, Bool, true, false, ◌&&◌, Some, List, [], ◌∷◌, ◌++◌, length, nat_lt, refl, ◌∙◌, arith}
use Rattle.std.specs.Prelude.{All, codes}
use Rattle.std.specs.Fmt.{decimal}
use Rattle.std.specs.Int.{w32, to_be_bytes}
use Rattle.std.proofs.lemmas.Bool.Decides.{nat_tests}
use Rattle.std.proofs.lemmas.Fmt.{decimal_is_IsNumeral, length-decimal-le}
use Rattle.std.proofs.lemmas.List.{length-append}
use Rattle.std.proofs.lemmas.List.Elements.{All-nil, All-cons, All-append, All-weaker, All-from_get_or}
use Rattle.std.proofs.lemmas.Str.{IsUtf8-from_ascii}
use Rattle.std.proofs.lemmas.Str.Ascii.{IsAscii-from_all}
use Rattle.std.proofs.lemmas.Str.Parse.{digit_at}
use Rattle.sub_number.specs.Numbers.{shortest_number}
use Rattle.sub_number.specs.Texts.{IsText, IsShortText}
use Rattle.packet_codec.specs.Canonical.{canonical_text, canonical_fields, packet_size, Fits}
use Rattle.packet_codec.specs.Routing.{under}
use Rattle.packet_codec.specs.declared.event.Event.{Event}
use Rattle.packet_codec.specs.declared.stamp.Stamp.{Stamp}
use Rattle.packet_codec.specs.declared.status.Status.{Status}
use Rattle.packet_codec.specs.declared.status.Status.TheVariants.{InProgress}
use Rattle.packet_codec.proofs.ShortestLemmas.{length_shortest_number, shortest_size_range}
use Rattle.packet_codec.proofs.WritingLemmas.{length_canonical_fields}
use Rattle.drawn_lanes.specs.Outputs.{test_id, drawn_status, drawn_nanos, drawn_nanos_fit, none_fit, first_second, drawn_stamp, drawn_event, HasLanePacket}

-- ---- as they are made

pub begun_same : (lane test : ℕ) (id : List ℕ) (stamp : Stamp) (event : Event) → id ≡ test_id lane test → stamp ≡ drawn_stamp test 0 none_fit → event ≡ record (drawn_event lane test InProgress 0 none_fit) { stamp = Some stamp; id = Some id } → event ≡ drawn_event lane test InProgress 0 none_fit
begun_same lane test id stamp event named timed is = is ∙ (λ i. record (drawn_event lane test InProgress 0 none_fit) { stamp = Some (timed i); id = Some (named i) })

pub ended_same : (lane test number : ℕ) (event : Event) (stamp : Stamp) (status : Status) → event ≡ drawn_event lane test InProgress 0 none_fit → stamp ≡ drawn_stamp test (drawn_nanos number) (drawn_nanos_fit number) → status ≡ drawn_status number
    → record event { stamp = Some stamp; status = status } ≡ drawn_event lane test (drawn_status number) (drawn_nanos number) (drawn_nanos_fit number)
ended_same lane test number event stamp status is timed ended = λ i. record (is i) { stamp = Some (timed i); status = ended i }

-- ---- their ids are texts

record IsPlainByte (byte : ℕ) : Type 0 where
  some : 0 < byte
  ascii : byte < 128

plain_text : (bytes : List ℕ) → All IsPlainByte bytes → IsText bytes
plain_text bytes all = record {
  utf8 = IsUtf8-from_ascii bytes (IsAscii-from_all bytes (All-weaker IsPlainByte (λ byte. byte < 128) (λ byte p. p.ascii) bytes all));
  no_nul = All-weaker IsPlainByte (λ byte. byte ≢ 0) (λ byte p same. omega (arith, p.some, same)) bytes all;
}

are_plain : List ℕ → Bool
are_plain [] = true
are_plain (byte ∷ bytes) = nat_lt 0 byte && (nat_lt byte 128 && are_plain bytes)

both : (a b : Bool) → (a && b) ≡ true → (a ≡ true) × (b ≡ true)
both true b h = (refl, h)
both false b h = absurd (grind (arith, h))

plain_by_test : (bytes : List ℕ) → are_plain bytes ≡ true → All IsPlainByte bytes
unfolding are_plain
plain_by_test [] h = All-nil IsPlainByte
plain_by_test (byte ∷ bytes) h =
    let first = both (nat_lt 0 byte) (nat_lt byte 128 && are_plain bytes) h in
    let second = both (nat_lt byte 128) (are_plain bytes) first.1 in
    All-cons IsPlainByte byte bytes (record { some = grind (arith, nat_tests, first.0); ascii = grind (arith, nat_tests, second.0) }) (plain_by_test bytes second.1)

lane_word : All IsPlainByte (codes "lane.")
unfolding are_plain
lane_word = plain_by_test (codes "lane.") refl

test_word : All IsPlainByte (codes ".test.")
unfolding are_plain
test_word = plain_by_test (codes ".test.") refl

plain_decimal : (n : ℕ) → n < 2 ^ 64 → All IsPlainByte (decimal n)
plain_decimal n small = All-from_get_or IsPlainByte (decimal n) 0 (λ i below.
    let digit = digit_at (decimal n) i (decimal_is_IsNumeral n small).0.1 below in
    record { some = omega (arith, digit.0); ascii = omega (arith, digit.1) })

plain_id : (lane test : ℕ) → lane < 64 → test < 1000000 → All IsPlainByte (test_id lane test)
plain_id lane test small few =
    let front = All-append IsPlainByte (codes "lane.") (decimal lane) lane_word (plain_decimal lane (omega (arith, small))) in
    let middle = All-append IsPlainByte (codes "lane." ++ decimal lane) (codes ".test.") front test_word in
    All-append IsPlainByte (codes "lane." ++ decimal lane ++ codes ".test.") (decimal test) middle (plain_decimal test (omega (arith, few)))

id_length : (lane test : ℕ) → lane < 64 → test < 1000000 → length (test_id lane test) ≤ 19
id_length lane test small few = omega (
  arith,
  length-append (codes "lane." ++ decimal lane ++ codes ".test.") (decimal test),
  length-append (codes "lane." ++ decimal lane) (codes ".test."),
  length-append (codes "lane.") (decimal lane),
  length-decimal-le 2 lane (omega arith) (omega (arith, small)) (omega (arith, small)),
  length-decimal-le 6 test (omega arith) (omega (arith, few)) (omega (arith, few)),
)

pub id_is_text : (lane test : ℕ) → lane < 64 → test < 1000000 → IsShortText (test_id lane test)
id_is_text lane test small few = record { text = plain_text (test_id lane test) (plain_id lane test small few); short = omega (arith, id_length lane test small few) }

-- ---- and they have packets

packet_size_most : (n : ℕ) → packet_size n ≤ n + 10
packet_size_most n = grind (arith, nat_tests)

length_counted : (bytes : List ℕ) → length (canonical_text bytes) ≤ length bytes + 4
length_counted bytes = omega (arith, length-append (shortest_number (length bytes)) bytes, length_shortest_number (length bytes), shortest_size_range (length bytes))

module _ (lane test : ℕ) (status : Status) (nanos : ℕ) (fit : nanos < 2 ^ 30) (small : lane < 64) (few : test < 1000000) where
  abbrev event : Event
  event = drawn_event lane test status nanos fit

  pub test_fits : Fits event
  test_fits = record {
    size = omega (
      arith,
      packet_size_most (length (canonical_fields event)),
      length_canonical_fields event,
      length-append (to_be_bytes w32 (first_second + test)) (shortest_number nanos),
      length_shortest_number nanos,
      shortest_size_range nanos,
      length_counted (test_id lane test),
      id_length lane test small few,
    );
  }

  pub test_fits_under : Fits (under lane event)
  test_fits_under = record {
    size = omega (
      arith,
      packet_size_most (length (canonical_fields (under lane event))),
      length_canonical_fields (under lane event),
      length-append (to_be_bytes w32 (first_second + test)) (shortest_number nanos),
      length_shortest_number nanos,
      shortest_size_range nanos,
      length_counted (test_id lane test),
      id_length lane test small few,
      length_counted (decimal lane),
      length-decimal-le 2 lane (omega arith) (omega (arith, small)) (omega (arith, small)),
    );
  }

  pub test_has_packet : HasLanePacket lane event
  test_has_packet = record {
    is_event = record { seconds = omega (arith, few); id = id_is_text lane test small few; tags = tt; mime = tt; file = tt; route = tt };
    fits = test_fits;
    fits_under = test_fits_under;
  }

pub begun_fits : (event : Event) (lane test : ℕ) → event ≡ drawn_event lane test InProgress 0 none_fit → lane < 64 → test < 1000000 → Fits event
begun_fits event lane test is small few = rw is (test_fits lane test InProgress 0 none_fit small few)

pub ended_fits : (event : Event) (lane test number : ℕ) → event ≡ drawn_event lane test (drawn_status number) (drawn_nanos number) (drawn_nanos_fit number) → lane < 64 → test < 1000000 → Fits event
ended_fits event lane test number is small few = rw is (test_fits lane test (drawn_status number) (drawn_nanos number) (drawn_nanos_fit number) small few)
