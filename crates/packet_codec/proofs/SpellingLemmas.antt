-- The spelling with shortest numbers spells the event.
use Rattle.std.proofs.Common.{◌≡◌, ℕ, ◌+◌, ◌<◌, ◌≤◌, ◌^◌, List, [], ◌∷◌, length, refl, arith}
use Rattle.std.specs.Prelude.{Option, Some, None, IfSome, All}
use Rattle.std.specs.List.{flat_map}
use Rattle.std.specs.Int.{w32, to_be_bytes}
use Rattle.std.proofs.lemmas.List.{length-append}
use Rattle.std.proofs.lemmas.List.Elements.{All-head, All-tail}
use Rattle.std.proofs.lemmas.Bool.Decides.{nat_tests}
use Rattle.sub_number.specs.Numbers.{shortest_size, shortest_number}
use Rattle.sub_number.specs.Texts.{SpellsText, IsShortText}
use Rattle.sub_number.specs.Checksum.{crc32}
use Rattle.packet_codec.specs.declared.stamp.Stamp.{Stamp}
use Rattle.packet_codec.specs.declared.event.FilePart.{FilePart}
use Rattle.packet_codec.specs.declared.event.Event.{Event}
use Rattle.packet_codec.specs.Fields.{SpellsOptional, SpellsStamp, SpellsTexts, SpellsTags, SpellsFile, SpellsFields}
use Rattle.packet_codec.specs.Packet.{SpellsEvent}
use Rattle.packet_codec.specs.Canonical.{canonical_optional, canonical_text, canonical_stamp, canonical_tags, canonical_file, canonical_fields, canonical_body, canonical, packet_size, canonical_size, Fits, IsEvent, IsShortestSpelling}
use Rattle.packet_codec.proofs.ShortestLemmas.{length_shortest_number, shortest_spells}
use Rattle.packet_codec.proofs.WritingLemmas.{tags_count, length_canonical_fields}
use Rattle.packet_codec.proofs.LeastLemmas.{size_least}

pub text_spelled : (text : List ℕ) → IsShortText text → SpellsText (canonical_text text) text
text_spelled text t = record {
  number = shortest_number (length text);
  parts = refl;
  length_spelled = shortest_spells (length text) t.short;
  is_text = t.text;
}

pub stamp_spelled : (stamp : Stamp) → stamp.seconds < 2 ^ 32 → SpellsStamp (canonical_stamp stamp) stamp
stamp_spelled stamp small = record {
  nanos = shortest_number stamp.nanos;
  parts = refl;
  seconds_fit = small;
  nanos_spelled = shortest_spells stamp.nanos stamp.nanos_fit;
}

texts_spelled : (texts : List (List ℕ)) → All IsShortText texts → SpellsTexts (flat_map canonical_text texts) texts
texts_spelled [] all = refl
texts_spelled (text ∷ texts) all = (canonical_text text, flat_map canonical_text texts, refl, text_spelled text (All-head IsShortText text texts all), texts_spelled texts (All-tail IsShortText text texts all))

tags_spelled : (tags : List (List ℕ)) → All IsShortText tags → length (canonical_tags tags) < 2 ^ 30 → SpellsTags (canonical_tags tags) tags
tags_spelled tags all small = record {
  count = shortest_number (length tags);
  texts = flat_map canonical_text tags;
  parts = refl;
  count_spelled = shortest_spells (length tags) (omega (arith, tags_count tags));
  texts_spelled = texts_spelled tags all;
}

file_spelled : (file : FilePart) → IsShortText file.name → length (canonical_file file) < 2 ^ 30 → SpellsFile (canonical_file file) file
file_spelled file name small = record {
  name = canonical_text file.name;
  count = shortest_number (length file.bytes);
  parts = refl;
  name_spelled = text_spelled file.name name;
  count_spelled = shortest_spells (length file.bytes) (omega (arith, simp length-append at small));
}

optional_spelled : {A : Type 0} (Spells : List ℕ → A → Type 0) (spelling : A → List ℕ) (P : A → Type 0) → ((value : A) → P value → length (spelling value) < 2 ^ 30 → Spells (spelling value) value) → (value : Option A) → IfSome value P → length (canonical_optional spelling value) < 2 ^ 30 → SpellsOptional Spells (canonical_optional spelling value) value
optional_spelled Spells spelling P spells None some small = refl
optional_spelled Spells spelling P spells (Some value) some small = spells value some small

-- each field is spelled
pub fields_spelled : (e : Event) → IsEvent e → length (canonical_fields e) < 2 ^ 30 → SpellsFields (canonical_fields e) e
unfolding canonical_fields
fields_spelled e is small = record {
  stamp = canonical_optional canonical_stamp e.stamp;
  id = canonical_optional canonical_text e.id;
  tags = canonical_optional canonical_tags e.tags;
  mime = canonical_optional canonical_text e.mime;
  file = canonical_optional canonical_file e.file;
  route = canonical_optional canonical_text e.route;
  parts = refl;
  stamp_spelled = optional_spelled SpellsStamp canonical_stamp (λ stamp. stamp.seconds < 2 ^ 32) (λ stamp seconds _. stamp_spelled stamp seconds) e.stamp is.seconds (omega (arith, length_canonical_fields e));
  id_spelled = optional_spelled SpellsText canonical_text IsShortText (λ text short _. text_spelled text short) e.id is.id (omega (arith, length_canonical_fields e));
  tags_spelled = optional_spelled SpellsTags canonical_tags (All IsShortText) tags_spelled e.tags is.tags (omega (arith, length_canonical_fields e));
  mime_spelled = optional_spelled SpellsText canonical_text IsShortText (λ text short _. text_spelled text short) e.mime is.mime (omega (arith, length_canonical_fields e));
  file_spelled = optional_spelled SpellsFile canonical_file (λ file. IsShortText file.name × All (λ byte. byte < 256) file.bytes) (λ file parts. file_spelled file parts.0) e.file is.file (omega (arith, length_canonical_fields e));
  route_spelled = optional_spelled SpellsText canonical_text IsShortText (λ text short _. text_spelled text short) e.route is.route (omega (arith, length_canonical_fields e));
}

-- the size counts the fewest bytes that have room for it
pub packet_size_room : (n : ℕ) → packet_size n ≤ 4194303 → packet_size n ≡ 3 + shortest_size (packet_size n) + n + 4
packet_size_room n fits = grind (arith, nat_tests)

pub shortest_size_three : (value : ℕ) → value ≤ 4194303 → shortest_size value ≤ 3
shortest_size_three value small = grind (arith, nat_tests)

pub length_canonical_body : (e : Event) → Fits e → length (canonical_body e) + 4 ≡ canonical_size e
unfolding canonical_body
length_canonical_body e fits = omega (arith, length-append (shortest_number (canonical_size e)) (canonical_fields e), length_shortest_number (canonical_size e), packet_size_room (length (canonical_fields e)) fits.size)

-- the size is the length
pub length_canonical : (e : Event) → Fits e → length (canonical e) ≡ canonical_size e
length_canonical e fits = omega (arith, length-append (canonical_body e) (to_be_bytes w32 (crc32 (canonical_body e))), length_canonical_body e fits)

-- the event's spelling spells it
pub canonical_spells : (e : Event) → IsEvent e → Fits e → SpellsEvent (canonical e) e
unfolding canonical_body
canonical_spells e is fits = record {
  size = shortest_number (canonical_size e);
  fields = canonical_fields e;
  body = canonical_body e;
  body_is = refl;
  parts = refl;
  size_spelled = rw (length_canonical e fits) (shortest_spells (canonical_size e) (omega (arith, fits.size)));
  size_short = omega (arith, length_shortest_number (canonical_size e), shortest_size_three (canonical_size e) fits.size);
  fields_spelled = fields_spelled e is (omega (arith, length_canonical_body e fits, packet_size_room (length (canonical_fields e)) fits.size, fits.size));
}

-- and no other spelling is shorter
pub canonical_shortest : (e : Event) → IsEvent e → Fits e → IsShortestSpelling (canonical e) e
canonical_shortest e is fits = record {
  spells = canonical_spells e is fits;
  least = λ others spells. rw (length_canonical e fits) (size_least others e spells);
}
