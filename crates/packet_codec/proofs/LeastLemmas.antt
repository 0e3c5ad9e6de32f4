-- No spelling of an event, or of a part of it, is shorter than the one with shortest numbers.
use Rattle.std.specs.Prelude.{Result, Ok, Err, IfOk}
use Rattle.std.proofs.Common.{◌≡◌, ℕ, zero, suc, ◌+◌, ◌-◌, ◌*◌, ◌<◌, ◌≤◌, ◌^◌, List, [], ◌∷◌, ◌++◌, length, ap, arith}
use Rattle.std.specs.Prelude.{Option, Some, None}
use Rattle.std.specs.List.{flat_map}
use Rattle.std.specs.Int.{w32, to_be_bytes}
use Rattle.std.proofs.lemmas.List.{length-append}
use Rattle.std.proofs.lemmas.Bool.Decides.{nat_tests}
use Rattle.sub_number.specs.Numbers.{shortest_number}
use Rattle.sub_number.specs.Texts.{SpellsText}
use Rattle.sub_number.specs.Checksum.{crc32}
use Rattle.packet_codec.specs.declared.stamp.Stamp.{Stamp}
use Rattle.packet_codec.specs.declared.event.FilePart.{FilePart}
use Rattle.packet_codec.specs.declared.event.Event.{Event}
use Rattle.packet_codec.specs.Fields.{SpellsOptional, SpellsStamp, SpellsTexts, SpellsTags, SpellsFile, SpellsFields}
use Rattle.packet_codec.specs.Packet.{SpellsEvent}
use Rattle.packet_codec.specs.Canonical.{canonical_optional, canonical_text, canonical_stamp, canonical_tags, canonical_file, canonical_fields, packet_size, canonical_size, largest_packet, Fits}
use Rattle.packet_codec.proofs.ShortestLemmas.{number_least}
use Rattle.packet_codec.proofs.WritingLemmas.{length_canonical_fields}

pub text_least : (bytes text : List ℕ) → SpellsText bytes text → length (canonical_text text) ≤ length bytes
text_least bytes text s = omega (arith, ap length s.parts, length-append s.number text, length-append (shortest_number (length text)) text, number_least (length text) s.number s.length_spelled)

pub stamp_least : (bytes : List ℕ) (stamp : Stamp) → SpellsStamp bytes stamp → length (canonical_stamp stamp) ≤ length bytes
stamp_least bytes stamp s = omega (arith, ap length s.parts, length-append (to_be_bytes w32 stamp.seconds) s.nanos, length-append (to_be_bytes w32 stamp.seconds) (shortest_number stamp.nanos), number_least stamp.nanos s.nanos s.nanos_spelled)

pub texts_least : (bytes : List ℕ) (texts : List (List ℕ)) → SpellsTexts bytes texts → length (flat_map canonical_text texts) ≤ length bytes
texts_least bytes [] s = omega arith
texts_least bytes (text ∷ texts) s =
    omega (arith, ap length s.2, length-append s.0 s.1, length-append (canonical_text text) (flat_map canonical_text texts), text_least s.0 text s.3, texts_least s.1 texts s.4)

pub tags_least : (bytes : List ℕ) (tags : List (List ℕ)) → SpellsTags bytes tags → length (canonical_tags tags) ≤ length bytes
tags_least bytes tags s = omega (arith, ap length s.parts, length-append s.count s.texts, length-append (shortest_number (length tags)) (flat_map canonical_text tags), number_least (length tags) s.count s.count_spelled, texts_least s.texts tags s.texts_spelled)

pub file_least : (bytes : List ℕ) (file : FilePart) → SpellsFile bytes file → length (canonical_file file) ≤ length bytes
file_least bytes file s = omega (arith, simp length-append at (ap length s.parts), length-append (canonical_text file.name) (shortest_number (length file.bytes)), length-append (canonical_text file.name ++ shortest_number (length file.bytes)) file.bytes, text_least s.name file.name s.name_spelled, number_least (length file.bytes) s.count s.count_spelled)

pub optional_least : {A : Type 0} (Spells : List ℕ → A → Type 0) (spelling : A → List ℕ) → ((bytes : List ℕ) (value : A) → Spells bytes value → length (spelling value) ≤ length bytes) → (bytes : List ℕ) (value : Option A) → SpellsOptional Spells bytes value → length (canonical_optional spelling value) ≤ length bytes
optional_least Spells spelling least bytes None s = omega arith
optional_least Spells spelling least bytes (Some value) s = least bytes value s

pub fields_least : (bytes : List ℕ) (e : Event) → SpellsFields bytes e → length (canonical_fields e) ≤ length bytes
fields_least bytes e s = omega (
  arith,
  simp length-append at (ap length s.parts),
  length_canonical_fields e,
  optional_least SpellsStamp canonical_stamp stamp_least s.stamp e.stamp s.stamp_spelled,
  optional_least SpellsText canonical_text text_least s.id e.id s.id_spelled,
  optional_least SpellsTags canonical_tags tags_least s.tags e.tags s.tags_spelled,
  optional_least SpellsText canonical_text text_least s.mime e.mime s.mime_spelled,
  optional_least SpellsFile canonical_file file_least s.file e.file s.file_spelled,
  optional_least SpellsText canonical_text text_least s.route e.route s.route_spelled,
)

-- a packet that has room for its length is no smaller than the least
pub packet_size_least : (width n m : ℕ) → 1 ≤ width → width ≤ 3 → n ≤ m → 3 + width + m + 4 < 2 ^ (8 * width - 2) → packet_size n ≤ 3 + width + m + 4
packet_size_least zero n m some few less room = absurd (omega arith)
packet_size_least (suc zero) n m some few less room = grind (arith, nat_tests)
packet_size_least (suc (suc zero)) n m some few less room = grind (arith, nat_tests)
packet_size_least (suc (suc (suc zero))) n m some few less room = grind (arith, nat_tests)
packet_size_least (suc (suc (suc (suc width)))) n m some few less room = absurd (omega arith)

-- the size of a spelling, part by part
pub length_spelling : (bytes : List ℕ) (e : Event) → (s : SpellsEvent bytes e) → length bytes ≡ 3 + length s.size + length s.fields + 4
length_spelling bytes e s = omega (arith, ap length s.parts, length-append s.body (to_be_bytes w32 (crc32 s.body)), ap length s.body_is, length-append s.size s.fields)

-- a spelling of any widths is no shorter than the size with shortest numbers
pub size_least : (bytes : List ℕ) (e : Event) → SpellsEvent bytes e → canonical_size e ≤ length bytes
size_least bytes e s =
    let size : length bytes ≡ 3 + length s.size + length s.fields + 4 = length_spelling bytes e s in
    let room : 3 + length s.size + length s.fields + 4 < 2 ^ (8 * length s.size - 2) = rw (← size) s.size_spelled.fits in
    rw size (packet_size_least (length s.size) (length (canonical_fields e)) (length s.fields) s.size_spelled.some s.size_short (fields_least s.fields e s.fields_spelled) room)

-- three bytes have no room for more than the largest packet
pub small_of_width : (width value : ℕ) → width ≤ 3 → value < 2 ^ (8 * width - 2) → value ≤ largest_packet
small_of_width zero value few room = omega arith
small_of_width (suc zero) value few room = omega arith
small_of_width (suc (suc zero)) value few room = omega arith
small_of_width (suc (suc (suc zero))) value few room = omega arith
small_of_width (suc (suc (suc (suc width)))) value few room = absurd (omega arith)

-- so an event that some bytes spell fits
pub spelled_fits : (bytes : List ℕ) (e : Event) → SpellsEvent bytes e → Fits e
spelled_fits bytes e s =
    let small : length bytes ≤ largest_packet = small_of_width (length s.size) (length bytes) s.size_short s.size_spelled.fits in
    record { size = omega (arith, size_least bytes e s, small) }

-- also where it may not be there
pub spelled_fit : {E : Type 0} (bytes : List ℕ) (r : Result Event E) → IfOk r (SpellsEvent bytes) → IfOk r Fits
spelled_fit bytes (Ok e) s = spelled_fits bytes e s
spelled_fit bytes (Err e) s = tt
