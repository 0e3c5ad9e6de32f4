-- The packets of events are bytes.
use Rattle.std.proofs.Common.{◌≡◌, ℕ, zero, suc, ◌+◌, ◌-◌, ◌<◌, ◌≤◌, ◌^◌, ◌/◌, ◌%◌, ◌&&◌, Bool, true, false, List, [], ◌∷◌, ◌++◌, length, inl, inr, All, subst, sym, refl, arith}
use Rattle.std.specs.Prelude.{Option, Some, None, IfSome, is_some, nat_lt}
use Rattle.std.specs.Int.{w32, to_be_bytes, bytes_high_first, byte_at}
use Rattle.std.specs.List.{flat_map}
use Rattle.std.proofs.Math.Utf8.{scalar, scalars, encode, encodes, scalar_cases}
use Rattle.std.proofs.lemmas.Bool.{cond-true, cond-false, cases_lt}
use Rattle.std.proofs.lemmas.Bool.Decides.{nat_tests}
use Rattle.std.proofs.lemmas.List.Elements.{All-nil, All-cons, All-head, All-tail, All-drop}
use Rattle.sub_number.specs.Numbers.{shortest_size, shortest_number}
use Rattle.sub_number.specs.Texts.{IsText, IsShortText}
use Rattle.sub_number.specs.Checksum.{crc32}
use Rattle.packet_codec.specs.declared.stamp.Stamp.{Stamp}
use Rattle.packet_codec.specs.declared.event.FilePart.{FilePart}
use Rattle.packet_codec.specs.declared.event.Event.{Event}
use Rattle.packet_codec.specs.Canonical.{canonical_optional, canonical_text, canonical_stamp, canonical_tags, canonical_file, canonical_fields, canonical_body, canonical, canonical_size, IsEvent}
use Rattle.packet_codec.specs.Flags.{first_flags, second_flags, status_number, flag}
use Rattle.packet_codec.specs.Grammar.{AreBytes}
use Rattle.packet_codec.specs.Packet.{signature}
use Rattle.packet_codec.specs.declared.status.Status.{Status}
use Rattle.packet_codec.specs.declared.status.Status.TheVariants.{Unset, Exists, InProgress, Success, UxSuccess, Skip, Fail, XFail}
use Rattle.stream_reader.proofs.FrontLemmas.{are_both}

abbrev Small : ℕ → Type 0
Small byte = byte < 256

none : AreBytes []
none = All-nil Small

more : (byte : ℕ) (bytes : List ℕ) → byte < 256 → AreBytes bytes → AreBytes (byte ∷ bytes)
more byte bytes small are = All-cons Small byte bytes small are

-- ---- texts

two_more : (a b : ℕ) → a < 256 → b < 256 → AreBytes (a ∷ b ∷ [])
two_more a b first second = more a (b ∷ []) first (more b [] second none)

three_more : (a b c : ℕ) → a < 256 → b < 256 → c < 256 → AreBytes (a ∷ b ∷ c ∷ [])
three_more a b c first second third = more a (b ∷ c ∷ []) first (two_more b c second third)

char_bytes : (c : ℕ) → c < 1114112 → AreBytes (encode c)
unfolding encode
char_bytes c few = elim (cases_lt c 128) [
  | inl one ↦ subst AreBytes (sym (cond-true (nat_lt c 128) _ _ (grind (arith, nat_tests)))) (more c [] (omega arith) none)
  | inr high ↦ subst AreBytes (sym (cond-false (nat_lt c 128) _ _ (grind (arith, nat_tests)))) (elim (cases_lt c 2048) [
    | inl two ↦ subst AreBytes (sym (cond-true (nat_lt c 2048) _ _ (grind (arith, nat_tests)))) (two_more (192 + c / 64) (128 + c % 64) (omega arith) (omega arith))
    | inr higher ↦ subst AreBytes (sym (cond-false (nat_lt c 2048) _ _ (grind (arith, nat_tests)))) (elim (cases_lt c 65536) [
      | inl three ↦ subst AreBytes (sym (cond-true (nat_lt c 65536) _ _ (grind (arith, nat_tests)))) (three_more (224 + c / 4096) (128 + (c / 64) % 64) (128 + c % 64) (omega arith) (omega arith) (omega arith))
      | inr highest ↦ subst AreBytes (sym (cond-false (nat_lt c 65536) _ _ (grind (arith, nat_tests)))) (more (240 + c / 262144) ((128 + (c / 4096) % 64) ∷ (128 + (c / 64) % 64) ∷ (128 + c % 64) ∷ []) (omega arith) (three_more (128 + (c / 4096) % 64) (128 + (c / 64) % 64) (128 + c % 64) (omega arith) (omega arith) (omega arith)))
    ])
  ])
]

below_all : (c : ℕ) → scalar c ≡ true → c < 1114112
below_all c is = elim (scalar_cases c is) [
  | inl low ↦ omega (arith, low)
  | inr high ↦ high.1
]

both : (a b : Bool) → (a && b) ≡ true → (a ≡ true) × (b ≡ true)
both true b h = (refl, h)
both false b h = cc

chars_bytes : (cs : List ℕ) → scalars cs ≡ true → AreBytes (encodes cs)
chars_bytes [] are = none
chars_bytes (c ∷ cs) are =
    let parts = both (scalar c) (scalars cs) are in
    are_both (encode c) (encodes cs) (char_bytes c (below_all c parts.0)) (chars_bytes cs parts.1)

text_bytes : (text : List ℕ) → IsText text → AreBytes text
text_bytes text is = subst AreBytes is.utf8.1.1 (chars_bytes is.utf8.0 is.utf8.1.0)

-- ---- the parts of a packet

one_byte : (k n : ℕ) → byte_at k n < 256
one_byte zero n = omega arith
one_byte (suc k) n = omega arith

high_bytes : (k n : ℕ) → AreBytes (bytes_high_first k n)
high_bytes zero n = none
high_bytes (suc k) n = more (byte_at k n) (bytes_high_first k n) (one_byte k n) (high_bytes k n)

four_bytes : (n : ℕ) → AreBytes (to_be_bytes w32 n)
four_bytes n = high_bytes 4 n

number_bytes : (n : ℕ) → AreBytes (shortest_number n)
number_bytes n = let size = shortest_size n in All-drop Small (4 - size) _ (four_bytes _)

counted_bytes : (text : List ℕ) → IsShortText text → AreBytes (canonical_text text)
counted_bytes text is = are_both (shortest_number (length text)) text (number_bytes (length text)) (text_bytes text is.text)

texts_bytes : (texts : List (List ℕ)) → All IsShortText texts → AreBytes (flat_map canonical_text texts)
texts_bytes [] all = none
texts_bytes (text ∷ texts) all = are_both (canonical_text text) (flat_map canonical_text texts) (counted_bytes text (All-head IsShortText text texts all)) (texts_bytes texts (All-tail IsShortText text texts all))

tags_bytes : (tags : List (List ℕ)) → All IsShortText tags → AreBytes (canonical_tags tags)
tags_bytes tags all = are_both (shortest_number (length tags)) (flat_map canonical_text tags) (number_bytes (length tags)) (texts_bytes tags all)

stamp_bytes : (stamp : Stamp) → AreBytes (canonical_stamp stamp)
stamp_bytes stamp = are_both (to_be_bytes w32 stamp.seconds) (shortest_number stamp.nanos) (four_bytes stamp.seconds) (number_bytes stamp.nanos)

file_bytes : (file : FilePart) → IsShortText file.name × All Small file.bytes → AreBytes (canonical_file file)
file_bytes file is = are_both (canonical_text file.name ++ shortest_number (length file.bytes)) file.bytes (are_both (canonical_text file.name) (shortest_number (length file.bytes)) (counted_bytes file.name is.0) (number_bytes (length file.bytes))) is.1

optional_bytes : {A : Type 0} (spelling : A → List ℕ) (P : A → Type 0) → ((value : A) → P value → AreBytes (spelling value)) → (value : Option A) → IfSome value P → AreBytes (canonical_optional spelling value)
optional_bytes spelling P tells None is = none
optional_bytes spelling P tells (Some value) is = tells value is

fields_bytes : (e : Event) → IsEvent e → AreBytes (canonical_fields e)
unfolding canonical_fields
fields_bytes e is =
    let stamp = optional_bytes canonical_stamp (λ stamp. stamp.seconds < 2 ^ 32) (λ stamp _. stamp_bytes stamp) e.stamp is.seconds in
    let id = optional_bytes canonical_text IsShortText counted_bytes e.id is.id in
    let tags = optional_bytes canonical_tags (All IsShortText) tags_bytes e.tags is.tags in
    let mime = optional_bytes canonical_text IsShortText counted_bytes e.mime is.mime in
    let file = optional_bytes canonical_file (λ file. IsShortText file.name × All Small file.bytes) file_bytes e.file is.file in
    let route = optional_bytes canonical_text IsShortText counted_bytes e.route is.route in
    are_both _ (canonical_optional canonical_text e.route) (are_both _ (canonical_optional canonical_file e.file) (are_both _ (canonical_optional canonical_text e.mime) (are_both _ (canonical_optional canonical_tags e.tags) (are_both (canonical_optional canonical_stamp e.stamp) (canonical_optional canonical_text e.id) stamp id) tags) mime) file) route

-- ---- the head

flag_small : (set : Bool) (weight : ℕ) → flag set weight ≤ weight
flag_small true weight = omega arith
flag_small false weight = omega arith

status_small : (status : Status) → status_number status ≤ 7
status_small Unset = omega arith
status_small Exists = omega arith
status_small InProgress = omega arith
status_small Success = omega arith
status_small UxSuccess = omega arith
status_small Skip = omega arith
status_small Fail = omega arith
status_small XFail = omega arith

head_bytes : (e : Event) → AreBytes (signature ∷ first_flags e ∷ second_flags e ∷ [])
head_bytes e = three_more signature (first_flags e) (second_flags e) (omega arith)
    (omega (arith, flag_small (is_some e.id) 8, flag_small (is_some e.route) 4, flag_small (is_some e.stamp) 2, flag_small e.runnable 1))
    (omega (arith, flag_small (is_some e.tags) 128, flag_small (is_some e.file) 64, flag_small (is_some e.mime) 32, flag_small e.eof 16, status_small e.status))

body_bytes : (e : Event) → IsEvent e → AreBytes (canonical_body e)
unfolding canonical_body
body_bytes e is = are_both (signature ∷ first_flags e ∷ second_flags e ∷ []) (shortest_number (canonical_size e) ++ canonical_fields e) (head_bytes e) (are_both (shortest_number (canonical_size e)) (canonical_fields e) (number_bytes (canonical_size e)) (fields_bytes e is))

packet_bytes : (e : Event) → IsEvent e → AreBytes (canonical e)
packet_bytes e is = are_both (canonical_body e) (to_be_bytes w32 (crc32 (canonical_body e))) (body_bytes e is) (four_bytes (crc32 (canonical_body e)))

-- so are those of events in a row
pub packets_bytes : (events : List Event) → All IsEvent events → AreBytes (flat_map canonical events)
packets_bytes [] are = none
packets_bytes (e ∷ events) are = are_both (canonical e) (flat_map canonical events) (packet_bytes e (All-head IsEvent e events are)) (packets_bytes events (All-tail IsEvent e events are))
