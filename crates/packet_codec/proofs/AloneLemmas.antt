-- A spelling in bytes that is no longer than the one with shortest numbers is that one.
use Rattle.std.proofs.Common.{◌≡◌, ℕ, zero, suc, ◌+◌, ◌-◌, ◌*◌, ◌≤◌, ◌^◌, List, [], ◌∷◌, ◌++◌, length, drop, refl, sym, ap, subst, ◌∙◌, arith}
use Rattle.std.specs.Prelude.{Option, Some, None}
use Rattle.std.specs.List.{flat_map}
use Rattle.std.specs.Int.{w32, to_be_bytes}
use Rattle.std.proofs.lemmas.List.{length-append}
use Rattle.std.proofs.lemmas.Nat.{be_bytes_4}
use Rattle.sub_number.specs.Numbers.{SpellsNumber, shortest_size, shortest_number}
use Rattle.sub_number.specs.Texts.{SpellsText}
use Rattle.sub_number.specs.Checksum.{crc32}
use Rattle.sub_number.proofs.NumberLemmas.{AreBytes}
use Rattle.packet_codec.specs.declared.event.Event.{Event}
use Rattle.packet_codec.specs.Flags.{first_flags, second_flags}
use Rattle.packet_codec.specs.Fields.{SpellsOptional, SpellsStamp, SpellsTexts, SpellsTags, SpellsFile, SpellsFields}
use Rattle.packet_codec.specs.Grammar as grammar
use Rattle.packet_codec.specs.Packet.{signature, SpellsEvent}
use Rattle.packet_codec.specs.Canonical.{canonical_optional, canonical_text, canonical_stamp, canonical_tags, canonical_file, canonical_fields, canonical_body, canonical, canonical_size}
use Rattle.packet_codec.proofs.GrammarLemmas.{fits_from_are, are_front, are_rest}
use Rattle.packet_codec.proofs.ShortestLemmas.{length_shortest_number, number_least}
use Rattle.packet_codec.proofs.WritingLemmas.{length_canonical_fields}
use Rattle.packet_codec.proofs.LeastLemmas.{text_least, stamp_least, texts_least, tags_least, file_least, optional_least, fields_least, length_spelling, spelled_fits}
use Rattle.packet_codec.proofs.SpellingLemmas.{packet_size_room}

-- bytes that spell a value, where they are no more than in its shortest spelling, are that spelling
abbrev IsAlone : {A : Type 0} → (List ℕ → A → Type 0) → (A → List ℕ) → Type 0
IsAlone {A} Spells spelling = (bytes : List ℕ) (value : A) → AreBytes bytes → Spells bytes value → length bytes ≤ length (spelling value) → bytes ≡ spelling value

behind_zero : (bytes : List ℕ) → AreBytes bytes → AreBytes (0 ∷ bytes)
behind_zero bytes are zero = omega arith
behind_zero bytes are (suc i) = are i

-- a number has one spelling of each width
number_of_width : (bytes : List ℕ) (value : ℕ) → AreBytes bytes → SpellsNumber bytes value → drop (4 - length bytes) (to_be_bytes w32 ((length bytes - 1) * 2 ^ (8 * length bytes - 2) + value)) ≡ bytes
number_of_width [] value are s = absurd (omega (arith, s.some))
number_of_width (a ∷ []) value are s =
    let padded = behind_zero (0 ∷ 0 ∷ a ∷ []) (behind_zero (0 ∷ a ∷ []) (behind_zero (a ∷ []) are)) in
    ap (drop 3) (be_bytes_4 (0 ∷ 0 ∷ 0 ∷ a ∷ []) (0 + value) refl (λ i. omega (arith, padded i)) (omega (arith, s.digits)))
number_of_width (a ∷ b ∷ []) value are s =
    let padded = behind_zero (0 ∷ a ∷ b ∷ []) (behind_zero (a ∷ b ∷ []) are) in
    ap (drop 2) (be_bytes_4 (0 ∷ 0 ∷ a ∷ b ∷ []) (2 ^ 14 + value) refl (λ i. omega (arith, padded i)) (omega (arith, s.digits)))
number_of_width (a ∷ b ∷ c ∷ []) value are s =
    let padded = behind_zero (a ∷ b ∷ c ∷ []) are in
    ap (drop 1) (be_bytes_4 (0 ∷ a ∷ b ∷ c ∷ []) (2 * 2 ^ 22 + value) refl (λ i. omega (arith, padded i)) (omega (arith, s.digits)))
number_of_width (a ∷ b ∷ c ∷ d ∷ []) value are s = be_bytes_4 (a ∷ b ∷ c ∷ d ∷ []) (3 * 2 ^ 30 + value) refl (λ i. omega (arith, are i)) (omega (arith, s.digits))
number_of_width (a ∷ b ∷ c ∷ d ∷ e ∷ rest) value are s = absurd (omega (arith, s.few))

number_alone : IsAlone SpellsNumber shortest_number
number_alone bytes value are s short =
    let size : length bytes ≡ shortest_size value = omega (arith, length_shortest_number value, number_least value bytes s, short) in
    sym (subst (λ (n : ℕ). drop (4 - n) (to_be_bytes w32 ((n - 1) * 2 ^ (8 * n - 2) + value)) ≡ bytes) size (number_of_width bytes value are s))

text_alone : IsAlone SpellsText canonical_text
text_alone bytes text are s short =
    let number = number_alone s.number (length text) (are_front s.number text (rw (s.parts) at are)) s.length_spelled (omega (arith, ap length s.parts, length-append s.number text, length-append (shortest_number (length text)) text, short)) in
    s.parts ∙ ap (λ (l : List ℕ). l ++ text) number

stamp_alone : IsAlone SpellsStamp canonical_stamp
stamp_alone bytes stamp are s short =
    let seconds = to_be_bytes w32 stamp.seconds in
    let nanos = number_alone s.nanos stamp.nanos (are_rest seconds s.nanos (rw (s.parts) at are)) s.nanos_spelled (omega (arith, ap length s.parts, length-append seconds s.nanos, length-append seconds (shortest_number stamp.nanos), short)) in
    s.parts ∙ ap (λ (l : List ℕ). seconds ++ l) nanos

texts_alone : IsAlone SpellsTexts (flat_map canonical_text)
texts_alone bytes [] are s short = s
texts_alone bytes (text ∷ texts) are (front, rest, parts, first, others) short =
    let each = rw parts at are in
    let own = length-append front rest in
    let least = length-append (canonical_text text) (flat_map canonical_text texts) in
    let text_is = text_alone front text (are_front front rest each) first (omega (arith, ap length parts, own, least, short, texts_least rest texts others)) in
    let texts_are = texts_alone rest texts (are_rest front rest each) others (omega (arith, ap length parts, own, least, short, text_least front text first)) in
    parts ∙ (λ i. text_is i ++ texts_are i)

tags_alone : IsAlone SpellsTags canonical_tags
tags_alone bytes tags are s short =
    let each = rw (s.parts) at are in
    let own = length-append s.count s.texts in
    let least = length-append (shortest_number (length tags)) (flat_map canonical_text tags) in
    let count_least = number_least (length tags) s.count s.count_spelled in
    let all_least = texts_least s.texts tags s.texts_spelled in
    let count_is = number_alone s.count (length tags) (are_front s.count s.texts each) s.count_spelled (omega (arith, ap length s.parts, own, least, all_least, short)) in
    let texts_are = texts_alone s.texts tags (are_rest s.count s.texts each) s.texts_spelled (omega (arith, ap length s.parts, own, least, count_least, short)) in
    s.parts ∙ (λ i. count_is i ++ texts_are i)

file_alone : IsAlone SpellsFile canonical_file
file_alone bytes file are s short =
    let each = are_front (s.name ++ s.count) file.bytes (rw (s.parts) at are) in
    let own = simp length-append at (ap length s.parts) in
    let least = simp length-append at short in
    let name_least = text_least s.name file.name s.name_spelled in
    let count_least = number_least (length file.bytes) s.count s.count_spelled in
    let name_is = text_alone s.name file.name (are_front s.name s.count each) s.name_spelled (omega (arith, own, least, length-append (shortest_number (length file.name)) file.name, count_least)) in
    let count_is = number_alone s.count (length file.bytes) (are_rest s.name s.count each) s.count_spelled (omega (arith, own, least, length-append (shortest_number (length file.name)) file.name, name_least)) in
    s.parts ∙ (λ i. name_is i ++ count_is i ++ file.bytes)

optional_alone : {A : Type 0} (Spells : List ℕ → A → Type 0) (spelling : A → List ℕ) → IsAlone Spells spelling → IsAlone {A = Option A} (SpellsOptional Spells) (canonical_optional spelling)
optional_alone Spells spelling alone bytes None are s short = s
optional_alone Spells spelling alone bytes (Some value) are s short = alone bytes value are s short

fields_alone : IsAlone SpellsFields canonical_fields
unfolding canonical_fields
fields_alone bytes e are s short =
    let own = simp length-append at (ap length s.parts) in
    let least = length_canonical_fields e in
    let stamp_size = optional_least SpellsStamp canonical_stamp stamp_least s.stamp e.stamp s.stamp_spelled in
    let id_size = optional_least SpellsText canonical_text text_least s.id e.id s.id_spelled in
    let tags_size = optional_least SpellsTags canonical_tags tags_least s.tags e.tags s.tags_spelled in
    let mime_size = optional_least SpellsText canonical_text text_least s.mime e.mime s.mime_spelled in
    let file_size = optional_least SpellsFile canonical_file file_least s.file e.file s.file_spelled in
    let route_size = optional_least SpellsText canonical_text text_least s.route e.route s.route_spelled in
    let to_route = rw (s.parts) at are in
    let to_file = are_front (s.stamp ++ s.id ++ s.tags ++ s.mime ++ s.file) s.route to_route in
    let to_mime = are_front (s.stamp ++ s.id ++ s.tags ++ s.mime) s.file to_file in
    let to_tags = are_front (s.stamp ++ s.id ++ s.tags) s.mime to_mime in
    let to_id = are_front (s.stamp ++ s.id) s.tags to_tags in
    let stamp_is = optional_alone SpellsStamp canonical_stamp stamp_alone s.stamp e.stamp (are_front s.stamp s.id to_id) s.stamp_spelled (omega (arith, own, least, short, id_size, tags_size, mime_size, file_size, route_size)) in
    let id_is = optional_alone SpellsText canonical_text text_alone s.id e.id (are_rest s.stamp s.id to_id) s.id_spelled (omega (arith, own, least, short, stamp_size, tags_size, mime_size, file_size, route_size)) in
    let tags_are = optional_alone SpellsTags canonical_tags tags_alone s.tags e.tags (are_rest (s.stamp ++ s.id) s.tags to_tags) s.tags_spelled (omega (arith, own, least, short, stamp_size, id_size, mime_size, file_size, route_size)) in
    let mime_is = optional_alone SpellsText canonical_text text_alone s.mime e.mime (are_rest (s.stamp ++ s.id ++ s.tags) s.mime to_mime) s.mime_spelled (omega (arith, own, least, short, stamp_size, id_size, tags_size, file_size, route_size)) in
    let file_is = optional_alone SpellsFile canonical_file file_alone s.file e.file (are_rest (s.stamp ++ s.id ++ s.tags ++ s.mime) s.file to_file) s.file_spelled (omega (arith, own, least, short, stamp_size, id_size, tags_size, mime_size, route_size)) in
    let route_is = optional_alone SpellsText canonical_text text_alone s.route e.route (are_rest (s.stamp ++ s.id ++ s.tags ++ s.mime ++ s.file) s.route to_route) s.route_spelled (omega (arith, own, least, short, stamp_size, id_size, tags_size, mime_size, file_size)) in
    s.parts ∙ (λ i. stamp_is i ++ id_is i ++ tags_are i ++ mime_is i ++ file_is i ++ route_is i)

-- so is a packet of the least size
pub packet_alone : (bytes : List ℕ) (e : Event) → grammar.AreBytes bytes → SpellsEvent bytes e → length bytes ≡ canonical_size e → bytes ≡ canonical e
unfolding canonical_body
packet_alone bytes e are s least =
    let body_are : AreBytes s.body = are_front s.body (to_be_bytes w32 (crc32 s.body)) (rw (s.parts) at (fits_from_are bytes are)) in
    let behind_flags : AreBytes (s.size ++ s.fields) = are_rest (signature ∷ first_flags e ∷ second_flags e ∷ []) (s.size ++ s.fields) (rw (s.body_is) at body_are) in
    let spelled : SpellsNumber s.size (canonical_size e) = rw least at s.size_spelled in
    let whole = length_spelling bytes e s in
    let room = packet_size_room (length (canonical_fields e)) (spelled_fits bytes e s).size in
    let size_is = number_alone s.size (canonical_size e) (are_front s.size s.fields behind_flags) spelled (omega (arith, whole, least, room, length_shortest_number (canonical_size e), fields_least s.fields e s.fields_spelled)) in
    let fields_are = fields_alone s.fields e (are_rest s.size s.fields behind_flags) s.fields_spelled (omega (arith, whole, least, room, length_shortest_number (canonical_size e), number_least (canonical_size e) s.size spelled)) in
    let body_is : s.body ≡ canonical_body e = s.body_is ∙ (λ i. signature ∷ first_flags e ∷ second_flags e ∷ size_is i ++ fields_are i) in
    s.parts ∙ ap (λ (l : List ℕ). l ++ to_be_bytes w32 (crc32 l)) body_is
