-- The events that packets spell, and their parts.
use Rattle.std.proofs.Common.{◌≡◌, ◌≢◌, ℕ, zero, suc, ◌+◌, ◌<◌, ◌≤◌, ◌^◌, ◌-◌, List, [], ◌∷◌, ◌++◌, length, inl, inr, arith}
use Rattle.std.specs.Prelude.{Option, Some, None, IfSome, All, codes}
use Rattle.std.specs.List.{flat_map}
use Rattle.std.specs.Int.{w32, to_be_bytes, bytes_high_first, byte_at}
use Rattle.std.specs.Fmt.{decimal}
use Rattle.std.proofs.lemmas.Bool.{cases_lt}
use Rattle.std.proofs.lemmas.Bool.Decides.{nat_tests}
use Rattle.std.proofs.lemmas.List.{length-append}
use Rattle.std.proofs.lemmas.List.Elements.{All-nil, All-cons, All-weaker, All-drop}
use Rattle.std.proofs.lemmas.Str.{IsUtf8-from_ascii}
use Rattle.std.proofs.lemmas.Str.Ascii.{IsAscii-from_all}
use Rattle.sub_number.specs.Numbers.{shortest_size, shortest_number}
use Rattle.sub_number.specs.Texts.{SpellsText, IsText, IsShortText}
use Rattle.sub_number.specs.Checksum.{crc32}
use Rattle.packet_codec.specs.declared.stamp.Stamp.{Stamp}
use Rattle.packet_codec.specs.declared.event.FilePart.{FilePart}
use Rattle.packet_codec.specs.declared.event.Event.{Event}
use Rattle.packet_codec.specs.Grammar.{AreBytes}
use Rattle.packet_codec.specs.Flags.{first_flags, second_flags}
use Rattle.packet_codec.specs.Fields.{SpellsOptional, SpellsStamp, SpellsTexts, SpellsTags, SpellsFile}
use Rattle.packet_codec.specs.Packet.{signature, SpellsEvent}
use Rattle.packet_codec.specs.Canonical.{canonical_optional, canonical_text, canonical_stamp, canonical_tags, canonical_file, canonical_fields, canonical_body, canonical, canonical_size, packet_size, IsEvent, Fits}
use Rattle.packet_codec.proofs.ShortestLemmas.{length_shortest_number, shortest_size_range}
use Rattle.packet_codec.proofs.ShapeLemmas.{number_below}
use Rattle.packet_codec.proofs.WritingLemmas.{length_canonical_fields}
use Rattle.packet_codec.proofs.RoutingLemmas.{length_decimal_one, length_decimal_two}
use Rattle.packet_codec.proofs.LaneLemmas.{is_event_under}
use Rattle.stream_reader.specs.Notes.{stdout_event}
use Rattle.stream_reader.proofs.FrontLemmas.{are_before, are_behind, are_both}
use Rattle.worker_lane.specs.Recorded.{stdout_under, HasPacket}

-- ---- what the parts of a packet are

text_of : (bytes text : List ℕ) → SpellsText bytes text → IsShortText text
text_of bytes text s = record { text = s.is_text; short = number_below s.number (length text) s.length_spelled }

text_bytes : (bytes text : List ℕ) → AreBytes bytes → SpellsText bytes text → AreBytes text
text_bytes bytes text are s = are_behind s.number text (rw (s.parts) at are)

texts_of : (bytes : List ℕ) (texts : List (List ℕ)) → SpellsTexts bytes texts → All IsShortText texts
texts_of bytes [] s = All-nil IsShortText
texts_of bytes (text ∷ texts) (front, rest, parts, first, more) = All-cons IsShortText text texts (text_of front text first) (texts_of rest texts more)

tags_of : (bytes : List ℕ) (tags : List (List ℕ)) → SpellsTags bytes tags → All IsShortText tags
tags_of bytes tags s = texts_of s.texts tags s.texts_spelled

file_bytes : (bytes : List ℕ) (file : FilePart) → AreBytes bytes → SpellsFile bytes file → AreBytes file.bytes
file_bytes bytes file are s = are_behind (s.name ++ s.count) file.bytes (rw (s.parts) at are)

optional_of : {A : Type 0} (Spells : List ℕ → A → Type 0) (P : A → Type 0) → ((bytes : List ℕ) (value : A) → AreBytes bytes → Spells bytes value → P value) → (bytes : List ℕ) (value : Option A) → AreBytes bytes → SpellsOptional Spells bytes value → IfSome value P
optional_of Spells P tells bytes None are s = tt
optional_of Spells P tells bytes (Some value) are s = tells bytes value are s

-- the bytes of a packet, part by part
record PartBytes (p : List ℕ) (e : Event) (s : SpellsEvent p e) : Type 0 where
  head : AreBytes (signature ∷ first_flags e ∷ second_flags e ∷ [])
  stamp : AreBytes s.fields_spelled.stamp
  id : AreBytes s.fields_spelled.id
  tags : AreBytes s.fields_spelled.tags
  mime : AreBytes s.fields_spelled.mime
  file : AreBytes s.fields_spelled.file
  route : AreBytes s.fields_spelled.route

part_bytes : (p : List ℕ) (e : Event) → AreBytes p → (s : SpellsEvent p e) → PartBytes p e s
part_bytes p e are s =
    let f = s.fields_spelled in
    let body : AreBytes s.body = are_before s.body (to_be_bytes w32 (crc32 s.body)) (rw (s.parts) at are) in
    let whole : AreBytes ((signature ∷ first_flags e ∷ second_flags e ∷ []) ++ (s.size ++ s.fields)) = rw (s.body_is) at body in
    let fields : AreBytes s.fields = are_behind s.size s.fields (are_behind (signature ∷ first_flags e ∷ second_flags e ∷ []) (s.size ++ s.fields) whole) in
    let all : AreBytes (((((f.stamp ++ f.id) ++ f.tags) ++ f.mime) ++ f.file) ++ f.route) = rw (f.parts) at fields in
    let to_file : AreBytes ((((f.stamp ++ f.id) ++ f.tags) ++ f.mime) ++ f.file) = are_before ((((f.stamp ++ f.id) ++ f.tags) ++ f.mime) ++ f.file) f.route all in
    let to_mime : AreBytes (((f.stamp ++ f.id) ++ f.tags) ++ f.mime) = are_before (((f.stamp ++ f.id) ++ f.tags) ++ f.mime) f.file to_file in
    let to_tags : AreBytes ((f.stamp ++ f.id) ++ f.tags) = are_before ((f.stamp ++ f.id) ++ f.tags) f.mime to_mime in
    let to_id : AreBytes (f.stamp ++ f.id) = are_before (f.stamp ++ f.id) f.tags to_tags in
    record {
      head = are_before (signature ∷ first_flags e ∷ second_flags e ∷ []) (s.size ++ s.fields) whole;
      stamp = are_before f.stamp f.id to_id;
      id = are_behind f.stamp f.id to_id;
      tags = are_behind (f.stamp ++ f.id) f.tags to_tags;
      mime = are_behind ((f.stamp ++ f.id) ++ f.tags) f.mime to_mime;
      file = are_behind (((f.stamp ++ f.id) ++ f.tags) ++ f.mime) f.file to_file;
      route = are_behind ((((f.stamp ++ f.id) ++ f.tags) ++ f.mime) ++ f.file) f.route all;
    }

-- what a packet spells is an event
pub spelled_is_event : (p : List ℕ) (e : Event) → AreBytes p → SpellsEvent p e → IsEvent e
spelled_is_event p e are s =
    let f = s.fields_spelled in
    let b = part_bytes p e are s in
    record {
      seconds = optional_of SpellsStamp (λ stamp. stamp.seconds < 2 ^ 32) (λ bytes stamp _ t. t.seconds_fit) f.stamp e.stamp b.stamp f.stamp_spelled;
      id = optional_of SpellsText IsShortText (λ bytes text _ t. text_of bytes text t) f.id e.id b.id f.id_spelled;
      tags = optional_of SpellsTags (All IsShortText) (λ bytes tags _ t. tags_of bytes tags t) f.tags e.tags b.tags f.tags_spelled;
      mime = optional_of SpellsText IsShortText (λ bytes text _ t. text_of bytes text t) f.mime e.mime b.mime f.mime_spelled;
      file = optional_of SpellsFile (λ file. IsShortText file.name × All (λ byte. byte < 256) file.bytes) (λ bytes file are' t. (text_of t.name file.name t.name_spelled, file_bytes bytes file are' t)) f.file e.file b.file f.file_spelled;
      route = optional_of SpellsText IsShortText (λ bytes text _ t. text_of bytes text t) f.route e.route b.route f.route_spelled;
    }

-- ---- the bytes of its shortest spelling

one_byte : (k n : ℕ) → byte_at k n < 256
one_byte zero n = omega arith
one_byte (suc k) n = omega arith

high_bytes : (k n : ℕ) → AreBytes (bytes_high_first k n)
high_bytes zero n = All-nil (λ byte. byte < 256)
high_bytes (suc k) n = All-cons (λ byte. byte < 256) (byte_at k n) (bytes_high_first k n) (one_byte k n) (high_bytes k n)

four_bytes : (n : ℕ) → AreBytes (to_be_bytes w32 n)
four_bytes n = high_bytes 4 n

number_bytes : (n : ℕ) → AreBytes (shortest_number n)
number_bytes n = let size = shortest_size n in All-drop (λ byte. byte < 256) (4 - size) _ (four_bytes _)

counted_bytes : (text : List ℕ) → AreBytes text → AreBytes (canonical_text text)
counted_bytes text are = are_both (shortest_number (length text)) text (number_bytes (length text)) are

texts_bytes : (bytes : List ℕ) (texts : List (List ℕ)) → AreBytes bytes → SpellsTexts bytes texts → AreBytes (flat_map canonical_text texts)
texts_bytes bytes [] are s = All-nil (λ byte. byte < 256)
texts_bytes bytes (text ∷ texts) are (front, rest, parts, first, more) =
    let whole : AreBytes (front ++ rest) = rw parts at are in
    are_both (canonical_text text) (flat_map canonical_text texts) (counted_bytes text (text_bytes front text (are_before front rest whole) first)) (texts_bytes rest texts (are_behind front rest whole) more)

tags_bytes : (bytes : List ℕ) (tags : List (List ℕ)) → AreBytes bytes → SpellsTags bytes tags → AreBytes (canonical_tags tags)
tags_bytes bytes tags are s = are_both (shortest_number (length tags)) (flat_map canonical_text tags) (number_bytes (length tags)) (texts_bytes s.texts tags (are_behind s.count s.texts (rw (s.parts) at are)) s.texts_spelled)

stamp_bytes : (stamp : Stamp) → AreBytes (canonical_stamp stamp)
stamp_bytes stamp = are_both (to_be_bytes w32 stamp.seconds) (shortest_number stamp.nanos) (four_bytes stamp.seconds) (number_bytes stamp.nanos)

written_file : (bytes : List ℕ) (file : FilePart) → AreBytes bytes → SpellsFile bytes file → AreBytes (canonical_file file)
written_file bytes file are s =
    let whole : AreBytes ((s.name ++ s.count) ++ file.bytes) = rw (s.parts) at are in
    let name : AreBytes s.name = are_before s.name s.count (are_before (s.name ++ s.count) file.bytes whole) in
    are_both (canonical_text file.name ++ shortest_number (length file.bytes)) file.bytes
    (are_both (canonical_text file.name) (shortest_number (length file.bytes)) (counted_bytes file.name (text_bytes s.name file.name name s.name_spelled)) (number_bytes (length file.bytes)))
    (file_bytes bytes file are s)

optional_bytes : {A : Type 0} (Spells : List ℕ → A → Type 0) (spelling : A → List ℕ) → ((bytes : List ℕ) (value : A) → AreBytes bytes → Spells bytes value → AreBytes (spelling value)) → (bytes : List ℕ) (value : Option A) → AreBytes bytes → SpellsOptional Spells bytes value → AreBytes (canonical_optional spelling value)
optional_bytes Spells spelling tells bytes None are s = All-nil (λ byte. byte < 256)
optional_bytes Spells spelling tells bytes (Some value) are s = tells bytes value are s

fields_bytes : (p : List ℕ) (e : Event) → AreBytes p → SpellsEvent p e → AreBytes (canonical_fields e)
unfolding canonical_fields
fields_bytes p e are s =
    let f = s.fields_spelled in
    let b = part_bytes p e are s in
    let text : (bytes text : List ℕ) → AreBytes bytes → SpellsText bytes text → AreBytes (canonical_text text) = λ bytes text are' t. counted_bytes text (text_bytes bytes text are' t) in
    let stamp = optional_bytes SpellsStamp canonical_stamp (λ bytes stamp _ _. stamp_bytes stamp) f.stamp e.stamp b.stamp f.stamp_spelled in
    let id = optional_bytes SpellsText canonical_text text f.id e.id b.id f.id_spelled in
    let tags = optional_bytes SpellsTags canonical_tags tags_bytes f.tags e.tags b.tags f.tags_spelled in
    let mime = optional_bytes SpellsText canonical_text text f.mime e.mime b.mime f.mime_spelled in
    let file = optional_bytes SpellsFile canonical_file written_file f.file e.file b.file f.file_spelled in
    let route = optional_bytes SpellsText canonical_text text f.route e.route b.route f.route_spelled in
    are_both _ (canonical_optional canonical_text e.route) (are_both _ (canonical_optional canonical_file e.file) (are_both _ (canonical_optional canonical_text e.mime) (are_both _ (canonical_optional canonical_tags e.tags) (are_both (canonical_optional canonical_stamp e.stamp) (canonical_optional canonical_text e.id) stamp id) tags) mime) file) route

body_bytes : (p : List ℕ) (e : Event) → AreBytes p → SpellsEvent p e → AreBytes (canonical_body e)
unfolding canonical_body
body_bytes p e are s = are_both (signature ∷ first_flags e ∷ second_flags e ∷ []) (shortest_number (canonical_size e) ++ canonical_fields e) (part_bytes p e are s).head (are_both (shortest_number (canonical_size e)) (canonical_fields e) (number_bytes (canonical_size e)) (fields_bytes p e are s))

pub canonical_bytes : (p : List ℕ) (e : Event) → AreBytes p → SpellsEvent p e → AreBytes (canonical e)
canonical_bytes p e are s = are_both (canonical_body e) (to_be_bytes w32 (crc32 (canonical_body e))) (body_bytes p e are s) (four_bytes (crc32 (canonical_body e)))

-- ---- a piece of the file `stdout`

pub record IsPlainByte (byte : ℕ) : Type 0 where
  pub some : 0 < byte
  pub ascii : byte < 128

plain : (byte : ℕ) (bytes : List ℕ) → 0 < byte → byte < 128 → All IsPlainByte bytes → All IsPlainByte (byte ∷ bytes)
plain byte bytes some ascii all = All-cons IsPlainByte byte bytes (record { some = some; ascii = ascii }) all

pub plain_text : (bytes : List ℕ) → All IsPlainByte bytes → IsText bytes
plain_text bytes all = record {
  utf8 = IsUtf8-from_ascii bytes (IsAscii-from_all bytes (All-weaker IsPlainByte (λ byte. byte < 128) (λ byte p. p.ascii) bytes all));
  no_nul = All-weaker IsPlainByte (λ byte. byte ≢ 0) (λ byte p same. omega (arith, p.some, same)) bytes all;
}

name_is_plain : All IsPlainByte (codes "stdout")
name_is_plain = plain 115 (codes "tdout") (omega arith) (omega arith) (plain 116 (codes "dout") (omega arith) (omega arith) (plain 100 (codes "out") (omega arith) (omega arith) (plain 111 (codes "ut") (omega arith) (omega arith) (plain 117 (codes "t") (omega arith) (omega arith) (plain 116 [] (omega arith) (omega arith) (All-nil IsPlainByte))))))

name_is_text : IsShortText (codes "stdout")
name_is_text = record { text = plain_text (codes "stdout") name_is_plain; short = omega arith }

pub length_decimal : (lane : ℕ) → lane < 64 → length (decimal lane) ≤ 2
length_decimal lane small = elim (cases_lt lane 10) [
  | inl one ↦ omega (arith, length_decimal_one lane one)
  | inr two ↦ omega (arith, length_decimal_two lane two (omega arith))
]

pub packet_size_most : (n : ℕ) → packet_size n ≤ n + 10
packet_size_most n = grind (arith, nat_tests)

pub length_counted : (bytes : List ℕ) → length (canonical_text bytes) ≤ length bytes + 4
length_counted bytes = omega (arith, length-append (shortest_number (length bytes)) bytes, length_shortest_number (length bytes), shortest_size_range (length bytes))

pub stdout_fits : (lane : ℕ) (bytes : List ℕ) → lane < 64 → length bytes ≤ 65536 → Fits (stdout_under lane bytes)
stdout_fits lane bytes small short = record {
  size = omega (
    arith,
    packet_size_most (length (canonical_fields (stdout_under lane bytes))),
    length_canonical_fields (stdout_under lane bytes),
    length-append (canonical_text (codes "stdout")) (canonical_text bytes),
    length_counted (codes "stdout"),
    length_counted bytes,
    length_counted (decimal lane),
    length_decimal lane small,
  );
}

pub stdout_is_event : (lane : ℕ) (bytes : List ℕ) → lane < 64 → AreBytes bytes → length bytes ≤ 65536 → IsEvent (stdout_under lane bytes)
stdout_is_event lane bytes small are short = is_event_under lane (stdout_event bytes) small (record { seconds = tt; id = tt; tags = tt; mime = tt; file = (name_is_text, are); route = tt }) (stdout_fits lane bytes small short)

pub event_has_packet : (event : Event) (lane : ℕ) (bytes : List ℕ) → event ≡ stdout_under lane bytes → lane < 64 → AreBytes bytes → length bytes ≤ 65536 → HasPacket event
event_has_packet event lane bytes is small are short = rw is (record { is_event = stdout_is_event lane bytes small are short; fits = stdout_fits lane bytes small short })
