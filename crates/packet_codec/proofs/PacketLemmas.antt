-- A packet in its parts, and the one event that they tell of.
use Rattle.std.proofs.Common.{◌≡◌, ℕ, ◌+◌, ◌-◌, ◌/◌, ◌%◌, ◌≤◌, ◌<◌, Bool, true, false, Option, Some, None, List, [], ◌∷◌, ◌++◌, length, get_or, take, drop, All, refl, sym, ap, ◌∙◌, append_assoc, arith}
use Rattle.std.specs.Prelude.{is_some, option_map, IfSome, IsTrue, IfOk, Result, Ok, Err, ◌↔◌}
use Rattle.std.specs.Int.{w32, to_be_bytes}
use Rattle.std.proofs.lemmas.List.{take_at, drop_at, take-append-drop, take-take, length-append, length-take-le}
use Rattle.std.proofs.lemmas.List.Elements.{All-nil, All-cons, All-head, All-tail}
use Rattle.sub_number.specs.Texts.{IsText, IsShortText, SpellsText}
use Rattle.sub_number.specs.Checksum.{crc32}
use Rattle.packet_codec.proofs.ShapeLemmas.{number_below}
use Rattle.sub_number.proofs.NumberLemmas.{AreBytes}
use Rattle.packet_codec.specs.declared.event.FilePart.{FilePart}
use Rattle.packet_codec.specs.declared.event.Event.{Event}
use Rattle.packet_codec.specs.declared.header.Header.{Header}
use Rattle.packet_codec.specs.Flags.{first_flags, second_flags}
use Rattle.packet_codec.specs.Fields.{SpellsOptional, SpellsStamp, SpellsTexts, SpellsTags, SpellsFile, SpellsFields}
use Rattle.packet_codec.specs.Packet.{signature, SpellsEvent, IsPacket}
use Rattle.packet_codec.specs.Grammar.{SpellsFront, NotFound, Flagged}
use Rattle.packet_codec.specs.Shapes.{ByteRun, ByteRuns, CountedRuns, NamedRun, bit, Contents, FieldShapes, HeaderShape, HeaderStands, AreTexts, AreShortTexts, status_from, file_from, event_from, contents_of, fields_at, ShowsParts}
use Rattle.packet_codec.specs.Told.{IsTold}
use Rattle.packet_codec.specs.Grammar as grammar
use Rattle.std.proofs.lemmas.List.{get_or_default}
use Rattle.packet_codec.specs.declared.parts.Parts.{Parts}
use Rattle.packet_codec.proofs.GrammarLemmas.{fits_from_are, are_front, are_rest, found_same, same_front}
use Rattle.packet_codec.proofs.FlagLemmas.{FirstBits, SecondBits, first_bits, second_bits, first_from_bits, second_from_bits, status_from_number, number_of_status}
use Rattle.packet_codec.proofs.PartsLemmas.{fields_free}
use Rattle.packet_codec.proofs.HeaderLemmas.{header_free}

-- ---- texts and runs

run_from_text : (bytes text : List ℕ) → SpellsText bytes text → ByteRun bytes text
run_from_text bytes text s = record { number = s.number; content = text; parts = s.parts; number_spelled = s.length_spelled; content_spelled = refl }

text_from_run : (bytes text : List ℕ) → ByteRun bytes text → IsText text → SpellsText bytes text
text_from_run bytes text s is = record { number = s.number; parts = s.parts ∙ ap (λ (l : List ℕ). s.number ++ l) s.content_spelled; length_spelled = s.number_spelled; is_text = is }

runs_from_texts : (bytes : List ℕ) (texts : List (List ℕ)) → SpellsTexts bytes texts → ByteRuns bytes texts
runs_from_texts bytes [] s = s
runs_from_texts bytes (text ∷ texts) (front, rest, parts, first, others) = (front, rest, parts, run_from_text front text first, runs_from_texts rest texts others)

are_texts : (bytes : List ℕ) (texts : List (List ℕ)) → SpellsTexts bytes texts → All IsText texts
are_texts bytes [] s = All-nil IsText
are_texts bytes (text ∷ texts) (front, rest, parts, first, others) = All-cons IsText text texts first.is_text (are_texts rest texts others)

texts_from_runs : (bytes : List ℕ) (texts : List (List ℕ)) → ByteRuns bytes texts → All IsText texts → SpellsTexts bytes texts
texts_from_runs bytes [] s all = s
texts_from_runs bytes (text ∷ texts) (front, rest, parts, first, others) all =
    (front, rest, parts, text_from_run front text first (All-head IsText text texts all), texts_from_runs rest texts others (All-tail IsText text texts all))

tags_shape : (bytes : List ℕ) (tags : List (List ℕ)) → SpellsTags bytes tags → CountedRuns bytes tags
tags_shape bytes tags s = record { number = s.count; content = s.texts; parts = s.parts; number_spelled = s.count_spelled; content_spelled = runs_from_texts s.texts tags s.texts_spelled }

tags_from_shape : (bytes : List ℕ) (tags : List (List ℕ)) → CountedRuns bytes tags → All IsText tags → SpellsTags bytes tags
tags_from_shape bytes tags s all = record { count = s.number; texts = s.content; parts = s.parts; count_spelled = s.number_spelled; texts_spelled = texts_from_runs s.content tags s.content_spelled all }

file_shape : (bytes : List ℕ) (file : FilePart) → SpellsFile bytes file → NamedRun bytes (file.name, file.bytes)
file_shape bytes file s = record {
  first = s.name;
  second = s.count ++ file.bytes;
  parts = s.parts ∙ append_assoc s.name s.count file.bytes;
  first_spelled = run_from_text s.name file.name s.name_spelled;
  second_spelled = record { number = s.count; content = file.bytes; parts = refl; number_spelled = s.count_spelled; content_spelled = refl };
}

file_from_shape : (bytes : List ℕ) (file : List ℕ × List ℕ) → NamedRun bytes file → IsText file.0 → SpellsFile bytes (file_from file)
file_from_shape bytes file s is = record {
  name = s.first;
  count = s.second_spelled.number;
  parts = s.parts ∙ ap (λ (l : List ℕ). s.first ++ l) (s.second_spelled.parts ∙ ap (λ (l : List ℕ). s.second_spelled.number ++ l) s.second_spelled.content_spelled) ∙ sym (append_assoc s.first s.second_spelled.number file.1);
  name_spelled = text_from_run s.first file.0 s.first_spelled is;
  count_spelled = s.second_spelled.number_spelled;
}

-- ---- behind a flag

-- what is spelled where it is there has its shape behind its flag
optional_shape : {A : Type 0} (Spells Shape : List ℕ → A → Type 0) → ((bytes : List ℕ) (a : A) → Spells bytes a → Shape bytes a)
    → (set : Bool) (bytes : List ℕ) (o : Option A) → set ≡ is_some o → SpellsOptional Spells bytes o → Flagged set Shape bytes o
optional_shape Spells Shape each set bytes None e s = rw e s
optional_shape Spells Shape each set bytes (Some a) e s = rw e (each bytes a s)

optional_good : {A : Type 0} (Spells : List ℕ → A → Type 0) (Good : A → Type 0) → ((bytes : List ℕ) (a : A) → Spells bytes a → Good a) → (bytes : List ℕ) (o : Option A) → SpellsOptional Spells bytes o → IfSome o Good
optional_good Spells Good each bytes None s = tt
optional_good Spells Good each bytes (Some a) s = each bytes a s

optional_from_shape : {A : Type 0} (Spells Shape : List ℕ → A → Type 0) (Good : A → Type 0) → ((bytes : List ℕ) (a : A) → Shape bytes a → Good a → Spells bytes a)
    → (set : Bool) (bytes : List ℕ) (o : Option A) → Flagged set Shape bytes o → IfSome o Good → SpellsOptional Spells bytes o
optional_from_shape Spells Shape Good each true bytes (Some a) s good = each bytes a s good
optional_from_shape Spells Shape Good each true bytes None s good = absurd s
optional_from_shape Spells Shape Good each false bytes (Some a) s good = absurd s
optional_from_shape Spells Shape Good each false bytes None s good = s

flagged_is : {A : Type 0} (Shape : List ℕ → A → Type 0) (set : Bool) (bytes : List ℕ) (o : Option A) → Flagged set Shape bytes o → is_some o ≡ set
flagged_is Shape true bytes (Some a) s = refl
flagged_is Shape true bytes None s = absurd s
flagged_is Shape false bytes (Some a) s = absurd s
flagged_is Shape false bytes None s = refl

abbrev parts_of_file : Option FilePart → Option (List ℕ × List ℕ)
parts_of_file file = option_map (λ part. (part.name, part.bytes)) file

optional_file_shape : (set : Bool) (bytes : List ℕ) (o : Option FilePart) → set ≡ is_some o → SpellsOptional SpellsFile bytes o → Flagged set NamedRun bytes (parts_of_file o)
optional_file_shape set bytes None e s = rw e s
optional_file_shape set bytes (Some file) e s = rw e (file_shape bytes file s)

optional_file_good : (bytes : List ℕ) (o : Option FilePart) → SpellsOptional SpellsFile bytes o → IfSome (parts_of_file o) (λ file. IsText file.0)
optional_file_good bytes None s = tt
optional_file_good bytes (Some file) s = s.name_spelled.is_text

optional_file_from_shape : (set : Bool) (bytes : List ℕ) (o : Option (List ℕ × List ℕ)) → Flagged set NamedRun bytes o → IfSome o (λ file. IsText file.0) → SpellsOptional SpellsFile bytes (option_map file_from o)
optional_file_from_shape true bytes (Some file) s good = file_from_shape bytes file s good
optional_file_from_shape true bytes None s good = absurd s
optional_file_from_shape false bytes (Some file) s good = absurd s
optional_file_from_shape false bytes None s good = s

file_there : (o : Option (List ℕ × List ℕ)) → is_some (option_map file_from o) ≡ is_some o
file_there None = refl
file_there (Some file) = refl

pub file_again : (o : Option FilePart) → option_map file_from (parts_of_file o) ≡ o
file_again None = refl
file_again (Some file) = refl

-- ---- flags and fields of an event

first_of : (e : Event) → FirstBits (is_some e.id) (is_some e.route) (is_some e.stamp) e.runnable (first_flags e)
first_of e = first_bits (is_some e.id) (is_some e.route) (is_some e.stamp) e.runnable (first_flags e) refl

second_of : (e : Event) → SecondBits (is_some e.tags) (is_some e.file) (is_some e.mime) e.eof e.status (second_flags e)
second_of e = second_bits (is_some e.tags) (is_some e.file) (is_some e.mime) e.eof e.status (second_flags e) refl

regroup_all : (a b c d e f : List ℕ) → a ++ b ++ c ++ d ++ e ++ f ≡ a ++ (b ++ (c ++ (d ++ (e ++ f))))
regroup_all a b c d e f = simp append_assoc

fields_shape : (bytes : List ℕ) (e : Event) → SpellsFields bytes e → FieldShapes (first_flags e) (second_flags e) bytes (contents_of e)
fields_shape bytes e s =
    let first = first_of e in
    let second = second_of e in
    record {
      first = s.stamp;
      second = s.id ++ (s.tags ++ (s.mime ++ (s.file ++ s.route)));
      parts = s.parts ∙ regroup_all s.stamp s.id s.tags s.mime s.file s.route;
      first_spelled = optional_shape SpellsStamp SpellsStamp (λ bytes a h. h) _ s.stamp e.stamp first.stamp_bit s.stamp_spelled;
      second_spelled = record {
        first = s.id;
        second = s.tags ++ (s.mime ++ (s.file ++ s.route));
        parts = refl;
        first_spelled = optional_shape SpellsText ByteRun run_from_text _ s.id e.id first.id_bit s.id_spelled;
        second_spelled = record {
          first = s.tags;
          second = s.mime ++ (s.file ++ s.route);
          parts = refl;
          first_spelled = optional_shape SpellsTags CountedRuns tags_shape _ s.tags e.tags second.tags_bit s.tags_spelled;
          second_spelled = record {
            first = s.mime;
            second = s.file ++ s.route;
            parts = refl;
            first_spelled = optional_shape SpellsText ByteRun run_from_text _ s.mime e.mime second.mime_bit s.mime_spelled;
            second_spelled = record {
              first = s.file;
              second = s.route;
              parts = refl;
              first_spelled = optional_file_shape _ s.file e.file second.file_bit s.file_spelled;
              second_spelled = optional_shape SpellsText ByteRun run_from_text _ s.route e.route first.route_bit s.route_spelled;
            };
          };
        };
      };
    }

text_good : (bytes text : List ℕ) → SpellsText bytes text → IsText text
text_good bytes text s = s.is_text

fields_texts : (bytes : List ℕ) (e : Event) → SpellsFields bytes e → AreTexts (contents_of e)
fields_texts bytes e s = record {
  id = optional_good SpellsText IsText text_good s.id e.id s.id_spelled;
  tags = optional_good SpellsTags (All IsText) (λ bytes tags t. are_texts t.texts tags t.texts_spelled) s.tags e.tags s.tags_spelled;
  mime = optional_good SpellsText IsText text_good s.mime e.mime s.mime_spelled;
  file = optional_file_good s.file e.file s.file_spelled;
  route = optional_good SpellsText IsText text_good s.route e.route s.route_spelled;
}

-- each is short enough, since its length is spelled
short_text : (bytes text : List ℕ) → SpellsText bytes text → IsShortText text
short_text bytes text s = record { text = s.is_text; short = number_below s.number (length text) s.length_spelled }

short_texts : (bytes : List ℕ) (texts : List (List ℕ)) → SpellsTexts bytes texts → All IsShortText texts
short_texts bytes [] s = All-nil IsShortText
short_texts bytes (text ∷ texts) (front, rest, parts, first, others) = All-cons IsShortText text texts (short_text front text first) (short_texts rest texts others)

optional_file_short : (bytes : List ℕ) (o : Option FilePart) → SpellsOptional SpellsFile bytes o → IfSome (parts_of_file o) (λ file. IsShortText file.0)
optional_file_short bytes None s = tt
optional_file_short bytes (Some file) s = short_text s.name file.name s.name_spelled

fields_short_texts : (bytes : List ℕ) (e : Event) → SpellsFields bytes e → AreShortTexts (contents_of e)
fields_short_texts bytes e s = record {
  id = optional_good SpellsText IsShortText short_text s.id e.id s.id_spelled;
  tags = optional_good SpellsTags (All IsShortText) (λ bytes tags t. short_texts t.texts tags t.texts_spelled) s.tags e.tags s.tags_spelled;
  mime = optional_good SpellsText IsShortText short_text s.mime e.mime s.mime_spelled;
  file = optional_file_short s.file e.file s.file_spelled;
  route = optional_good SpellsText IsShortText short_text s.route e.route s.route_spelled;
}

fields_from_shape : (first second : ℕ) (bytes : List ℕ) (c : Contents) → FieldShapes first second bytes c → AreTexts c → SpellsFields bytes (event_from first second c)
fields_from_shape first second bytes c s good =
    let from_id = s.second_spelled in
    let from_tags = from_id.second_spelled in
    let from_mime = from_tags.second_spelled in
    let from_file = from_mime.second_spelled in
    record {
      stamp = s.first;
      id = from_id.first;
      tags = from_tags.first;
      mime = from_mime.first;
      file = from_file.first;
      route = from_file.second;
      parts = s.parts ∙ ap (λ (l : List ℕ). s.first ++ l) (from_id.parts ∙ ap (λ (l : List ℕ). from_id.first ++ l) (from_tags.parts ∙ ap (λ (l : List ℕ). from_tags.first ++ l) (from_mime.parts ∙ ap (λ (l : List ℕ). from_mime.first ++ l) from_file.parts))) ∙ sym (regroup_all s.first from_id.first from_tags.first from_mime.first from_file.first from_file.second);
      stamp_spelled = optional_from_shape SpellsStamp SpellsStamp (λ _. Unit {0}) (λ bytes a h _. h) _ s.first c.0 s.first_spelled (if_some_any c.0);
      id_spelled = optional_from_shape SpellsText ByteRun IsText text_from_run _ from_id.first c.1.0 from_id.first_spelled good.id;
      tags_spelled = optional_from_shape SpellsTags CountedRuns (All IsText) tags_from_shape _ from_tags.first c.1.1.0 from_tags.first_spelled good.tags;
      mime_spelled = optional_from_shape SpellsText ByteRun IsText text_from_run _ from_mime.first c.1.1.1.0 from_mime.first_spelled good.mime;
      file_spelled = optional_file_from_shape _ from_file.first c.1.1.1.1.0 from_file.first_spelled good.file;
      route_spelled = optional_from_shape SpellsText ByteRun IsText text_from_run _ from_file.second c.1.1.1.1.1 from_file.second_spelled good.route;
    }
  where
    if_some_any : {A : Type 0} (o : Option A) → IfSome o (λ _. Unit {0})
    if_some_any None = tt
    if_some_any (Some a) = tt

-- the flags are those of the event that they make
first_again : (first second : ℕ) (bytes : List ℕ) (c : Contents) → first / 16 ≡ 2 → FieldShapes first second bytes c → first_flags (event_from first second c) ≡ first
first_again first second bytes c version s =
    let stamp = flagged_is SpellsStamp (bit first 2) _ c.0 s.first_spelled in
    let id = flagged_is ByteRun (bit first 8) _ c.1.0 s.second_spelled.first_spelled in
    let route = flagged_is ByteRun (bit first 4) _ c.1.1.1.1.1 s.second_spelled.second_spelled.second_spelled.second_spelled.second_spelled in
    rw (stamp, id, route) (sym (first_from_bits first version))

second_again : (first second : ℕ) (bytes : List ℕ) (c : Contents) → second < 256 → second / 8 % 2 ≡ 0 → FieldShapes first second bytes c → second_flags (event_from first second c) ≡ second
second_again first second bytes c byte zero_bit s =
    let from_tags = s.second_spelled.second_spelled in
    let tags = flagged_is CountedRuns (bit second 128) _ c.1.1.0 from_tags.first_spelled in
    let mime = flagged_is ByteRun (bit second 32) _ c.1.1.1.0 from_tags.second_spelled.first_spelled in
    let file = file_there c.1.1.1.1.0 ∙ flagged_is NamedRun (bit second 64) _ c.1.1.1.1.0 from_tags.second_spelled.second_spelled.first_spelled in
    let status = number_of_status (second % 8) (omega arith) in
    rw (tags, mime, file, status) (sym (second_from_bits second byte zero_bit))

pub event_again : (e : Event) → event_from (first_flags e) (second_flags e) (contents_of e) ≡ e
event_again e =
    let runnable = (first_of e).runnable_bit in
    let eof = (second_of e).eof_bit in
    let status = ap status_from (second_of e).status_bits ∙ status_from_number e.status in
    let file = file_again e.file in
    rw (runnable, eof, status, file) refl

-- ---- a whole packet

pub spelled_header : (p : List ℕ) (e : Event) → (s : SpellsEvent p e) → SpellsFront HeaderShape p (first_flags e, (second_flags e, length p)) (s.fields ++ to_be_bytes w32 (crc32 s.body))
spelled_header p e s =
    let header : List ℕ = signature ∷ first_flags e ∷ second_flags e ∷ s.size in
    let whole : p ≡ header ++ (s.fields ++ to_be_bytes w32 (crc32 s.body)) = s.parts ∙ ap (λ (l : List ℕ). l ++ to_be_bytes w32 (crc32 s.body)) s.body_is ∙ append_assoc header s.fields (to_be_bytes w32 (crc32 s.body)) in
    record {
      front = header;
      parts = whole;
      spelled = record {
        number = s.size;
        parts = refl;
        version = (first_of e).version;
        zero_bit = (second_of e).zero_bit;
        size_spelled = s.size_spelled;
        size_short = s.size_short;
        room = omega (arith, ap length whole, length-append header (s.fields ++ to_be_bytes w32 (crc32 s.body)), length-append s.fields (to_be_bytes w32 (crc32 s.body)));
      };
    }

unfoldable pub header_found : (p : List ℕ) (header : Header) → HeaderStands p header → SpellsFront HeaderShape p (header.first, (header.second, header.size)) (drop header.start p)
header_found p header stands = record { front = take header.start p; parts = sym (take-append-drop header.start p); spelled = stands.spelled }

-- no packet is the front of another one
pub no_front : (a b x y : List ℕ) (d e : Event) → AreBytes a → AreBytes b → SpellsEvent a d → SpellsEvent b e → a ++ x ≡ b ++ y → a ≡ b
no_front a b x y d e are are' s t whole =
    let h = spelled_header a d s in
    let k = spelled_header b e t in
    let split : h.front ++ ((s.fields ++ to_be_bytes w32 (crc32 s.body)) ++ x) ≡ k.front ++ ((t.fields ++ to_be_bytes w32 (crc32 t.body)) ++ y) =
    sym (ap (λ (l : List ℕ). l ++ x) h.parts ∙ append_assoc h.front _ x) ∙ whole ∙ ap (λ (l : List ℕ). l ++ y) k.parts ∙ append_assoc k.front _ y in
    let same = header_free h.front _ k.front _ _ _ (are_front h.front _ (rw (h.parts) at are)) (are_front k.front _ (rw (k.parts) at are')) split h.spelled k.spelled in
    (same_front a x b y whole (ap (λ (v : ℕ × (ℕ × ℕ)). v.1.1) same.value)).0

-- bytes spell one event
pub one_event : (p : List ℕ) (d e : Event) → AreBytes p → SpellsEvent p d → SpellsEvent p e → d ≡ e
one_event p d e are s t =
    let h = spelled_header p d s in
    let k = spelled_header p e t in
    let same = found_same HeaderShape header_free p _ _ _ _ are h k in
    let first : first_flags d ≡ first_flags e = ap (λ (v : ℕ × (ℕ × ℕ)). v.0) same.value in
    let second : second_flags d ≡ second_flags e = ap (λ (v : ℕ × (ℕ × ℕ)). v.1.0) same.value in
    let len : length s.fields ≡ length t.fields = omega (arith, ap length same.rest, length-append s.fields (to_be_bytes w32 (crc32 s.body)), length-append t.fields (to_be_bytes w32 (crc32 t.body))) in
    let fields = same_front s.fields _ t.fields _ same.rest len in
    let shape : FieldShapes (first_flags e) (second_flags e) t.fields (contents_of d) = rw (← first, ← second, ← fields.0) (fields_shape s.fields d s.fields_spelled) in
    let are_fields : AreBytes t.fields = are_front t.fields _ (are_rest k.front _ (rw (k.parts) at are)) in
    let contents = (fields_free (first_flags e) (second_flags e) t.fields [] t.fields [] (contents_of d) (contents_of e) are_fields are_fields refl shape (fields_shape t.fields e t.fields_spelled)).value in
    sym (event_again d) ∙ ap (λ (n : ℕ). event_from n (second_flags d) (contents_of d)) first ∙ ap (λ (n : ℕ). event_from (first_flags e) n (contents_of d)) second ∙ ap (event_from (first_flags e) (second_flags e)) contents ∙ event_again e

-- ---- a packet behind its header

-- the bytes in front of the checksum, and the fields in them
pub record Split (p body checksum fields : List ℕ) (header : Header) : Type 0 where
  pub stands : HeaderStands p header
  pub body_is : body ≡ take (length p - 4) p
  pub checksum_is : checksum ≡ drop (length p - 4) p
  pub fields_is : fields ≡ drop header.start body

-- what an event that is spelled says of them
pub record Told (p body checksum fields : List ℕ) (header : Header) (e : Event) : Type 0 where
  pub first : header.first ≡ first_flags e
  pub second : header.second ≡ second_flags e
  pub size : header.size ≡ length p
  pub room : header.start + 4 ≤ length p
  pub shape : FieldShapes header.first header.second fields (contents_of e)
  pub are_fields : AreBytes fields
  pub sum : checksum ≡ to_be_bytes w32 (crc32 body)

pub room_of : (p : List ℕ) (header : Header) → HeaderStands p header → header.start + 4 ≤ header.size
room_of p header stands = omega (arith, stands.spelled.room, length-take-le header.start p stands.in_range)

pub told : (p body checksum fields : List ℕ) (header : Header) (e : Event) → AreBytes p → Split p body checksum fields header → SpellsEvent p e → Told p body checksum fields header e
unfolding header_found spelled_header
told p body checksum fields header e are split s =
    let crc : List ℕ = to_be_bytes w32 (crc32 s.body) in
    let h = spelled_header p e s in
    let same = found_same HeaderShape header_free p _ _ _ _ are (header_found p header split.stands) h in
    let start : header.start ≡ length h.front = sym (length-take-le header.start p split.stands.in_range) ∙ ap length same.front in
    let len : length p ≡ length s.body + 4 = ap length s.parts ∙ length-append s.body crc in
    let body-is : body ≡ s.body = split.body_is ∙ ap (take (length p - 4)) s.parts ∙ take_at s.body crc (length p - 4) (omega arith) in
    let checksum-is : checksum ≡ crc = split.checksum_is ∙ ap (drop (length p - 4)) s.parts ∙ drop_at s.body crc (length p - 4) (omega arith) in
    let fields-is : fields ≡ s.fields = split.fields_is ∙ ap (drop header.start) (body-is ∙ s.body_is) ∙ drop_at h.front s.fields header.start (sym start) in
    let first : header.first ≡ first_flags e = ap (λ (v : ℕ × (ℕ × ℕ)). v.0) same.value in
    let second : header.second ≡ second_flags e = ap (λ (v : ℕ × (ℕ × ℕ)). v.1.0) same.value in
    let size : header.size ≡ length p = ap (λ (v : ℕ × (ℕ × ℕ)). v.1.1) same.value in
    record {
      first = first;
      second = second;
      size = size;
      room = omega (arith, room_of p header split.stands);
      shape = rw (first, second, fields-is) (fields_shape s.fields e s.fields_spelled);
      are_fields = rw fields-is (are_front s.fields crc (are_rest h.front (s.fields ++ crc) (rw (h.parts) at are)));
      sum = checksum-is ∙ ap (λ (l : List ℕ). to_be_bytes w32 (crc32 l)) (sym body-is);
    }

-- the fields that were read are those of the event
pub told_contents : (p body checksum fields : List ℕ) (header : Header) (e : Event) (c : Contents) → Told p body checksum fields header e → FieldShapes header.first header.second fields c → c ≡ contents_of e
told_contents p body checksum fields header e c t shape =
    (fields_free header.first header.second fields [] fields [] c (contents_of e) t.are_fields t.are_fields refl shape t.shape).value

-- their texts are texts
pub told_texts : (p body checksum fields : List ℕ) (header : Header) (e : Event) (c : Contents) → Told p body checksum fields header e → SpellsEvent p e → FieldShapes header.first header.second fields c → AreTexts c
told_texts p body checksum fields header e c t s shape =
    rw (told_contents p body checksum fields header e c t shape) (fields_texts s.fields e s.fields_spelled)

told_short_texts : (p body checksum fields : List ℕ) (header : Header) (e : Event) (c : Contents) → Told p body checksum fields header e → SpellsEvent p e → FieldShapes header.first header.second fields c → AreShortTexts c
told_short_texts p body checksum fields header e c t s shape =
    rw (told_contents p body checksum fields header e c t shape) (fields_short_texts s.fields e s.fields_spelled)

-- and the event is the one that they make
pub told_event : (p body checksum fields : List ℕ) (header : Header) (e : Event) (c : Contents) → Told p body checksum fields header e → FieldShapes header.first header.second fields c → event_from header.first header.second c ≡ e
told_event p body checksum fields header e c t shape =
    ap (event_from header.first header.second) (told_contents p body checksum fields header e c t shape) ∙ ap (λ (n : ℕ). event_from n header.second (contents_of e)) t.first ∙ ap (λ (n : ℕ). event_from (first_flags e) n (contents_of e)) t.second ∙ event_again e

-- what was read and tested is spelled
pub spelled : (p body checksum fields : List ℕ) (header : Header) (c : Contents) → AreBytes p → Split p body checksum fields header → length p ≡ header.size → FieldShapes header.first header.second fields c → AreTexts c → checksum ≡ to_be_bytes w32 (crc32 body)
    → SpellsEvent p (event_from header.first header.second c)
spelled p body checksum fields header c are split len shape texts sum =
    let room = room_of p header split.stands in
    let shown = split.stands.spelled in
    let front : take header.start body ≡ signature ∷ header.first ∷ header.second ∷ shown.number = ap (take header.start) split.body_is ∙ take-take header.start (length p - 4) p (omega arith) ∙ shown.parts in
    let whole : body ≡ signature ∷ header.first ∷ header.second ∷ (shown.number ++ fields) = sym (take-append-drop header.start body) ∙ ap (λ (l : List ℕ). l ++ drop header.start body) front ∙ ap (λ (l : List ℕ). signature ∷ header.first ∷ header.second ∷ (shown.number ++ l)) (sym split.fields_is) in
    let second-is : get_or p 2 0 ≡ header.second = ap (λ (l : List ℕ). get_or l 2 0) (sym (take-append-drop header.start p) ∙ ap (λ (l : List ℕ). l ++ drop header.start p) shown.parts) in
    let byte : header.second < 256 = omega (arith, second-is, are 2) in
    record {
      size = shown.number;
      fields = fields;
      body = body;
      body_is = rw (first_again header.first header.second fields c shown.version shape, second_again header.first header.second fields c byte shown.zero_bit shape) whole;
      parts = sym (take-append-drop (length p - 4) p) ∙ ap (λ (l : List ℕ). l ++ drop (length p - 4) p) (sym split.body_is) ∙ ap (λ (l : List ℕ). body ++ l) (sym split.checksum_is ∙ sum);
      size_spelled = rw len shown.size_spelled;
      size_short = shown.size_short;
      fields_spelled = fields_from_shape header.first header.second fields c shape texts;
    }

-- ---- what a test of the parts says

pub split_at : (p : List ℕ) (header : Header) → HeaderStands p header → Split p (take (length p - 4) p) (drop (length p - 4) p) (fields_at header p) header
split_at p header stands = record { stands = stands; body_is = refl; checksum_is = refl; fields_is = refl }

pub told_at : (p : List ℕ) (header : Header) (e : Event) → AreBytes p → HeaderStands p header → SpellsEvent p e → Told p (take (length p - 4) p) (drop (length p - 4) p) (fields_at header p) header e
told_at p header e are stands s = told p _ _ _ header e are (split_at p header stands) s

pub no_parts : (p : List ℕ) (header : Header) → AreBytes p → HeaderStands p header → ((c : Contents) → FieldShapes header.first header.second (fields_at header p) c → ⊥) → IsPacket p → ⊥
no_parts p header are stands never (e, s) = never (contents_of e) (told_at p header e are stands s).shape

pub other_texts : (p : List ℕ) (header : Header) (c : Contents) (answer : Bool) → AreBytes p → HeaderStands p header → FieldShapes header.first header.second (fields_at header p) c → answer ≡ false → (IsTrue answer ↔ AreTexts c) → IsTrue answer ↔ IsPacket p
other_texts p header c answer are stands shape is_not tests =
    (λ t. absurd (let e : false ≡ true = sym is_not ∙ t in cc), λ packet. tests.1 (told_texts p _ _ _ header packet.0 c (told_at p header packet.0 are stands packet.1) packet.1 shape))

pub by_checksum : (p body checksum : List ℕ) (header : Header) (c : Contents) (answer : Bool) → AreBytes p → HeaderStands p header → length p ≡ header.size → FieldShapes header.first header.second (fields_at header p) c → AreTexts c
    → body ≡ take (length p - 4) p → checksum ≡ drop (length p - 4) p → (IsTrue answer ↔ checksum ≡ to_be_bytes w32 (crc32 body)) → IsTrue answer ↔ IsPacket p
by_checksum p body checksum header c answer are stands len shape texts body-is checksum-is tests =
    let split : Split p body checksum (fields_at header p) header = record { stands = stands; body_is = body-is; checksum_is = checksum-is; fields_is = ap (drop header.start) (sym body-is) } in
    (λ t. (event_from header.first header.second c, spelled p body checksum (fields_at header p) header c are split len shape texts (tests.0 t)), λ packet. tests.1 (told p body checksum (fields_at header p) header packet.0 are split packet.1).sum)

pub header_never : (p : List ℕ) (e : Event) → SpellsEvent p e → NotFound HeaderShape p → ⊥
header_never p e s never = never _ _ (spelled_header p e s)

-- ---- decoding

if_ok_then : {A E : Type 0} (P Q : A → Type 0) (r : Result A E) → IfOk r P → ((a : A) → P a → Q a) → IfOk r Q
if_ok_then P Q (Ok a) holds each = each a holds
if_ok_then P Q (Err e) holds each = tt

pub decoded : {E : Type 0} (p : List ℕ) (header : Header) (c : Contents) (e : Event) (r : Result Event E) → AreBytes p → HeaderStands p header → FieldShapes header.first header.second (fields_at header p) c → SpellsEvent p e
    → IfOk r (λ event. event ≡ event_from header.first header.second c) → IfOk r (λ event. event ≡ e)
decoded p header c e r are stands shape s made =
    if_ok_then (λ event. event ≡ event_from header.first header.second c) (λ event. event ≡ e) r made (λ event is. is ∙ told_event p _ _ _ header e c (told_at p header e are stands s) shape)

pub decoded_spelled : {E : Type 0} (p : List ℕ) (e : Event) (r : Result Event E) → SpellsEvent p e → IfOk r (λ event. event ≡ e) → IfOk r (SpellsEvent p)
decoded_spelled p e r s is_e = if_ok_then (λ event. event ≡ e) (SpellsEvent p) r is_e (λ event is. rw is s)

-- the event of a packet whose parts were tested
pub told_event_of : {E : Type 0} (p : List ℕ) (header : Header) (parts : Parts) (r : Result Event E) → IsTold p header parts
    → ((c : Contents) → ShowsParts parts c → IfOk r (λ event. event ≡ event_from header.first header.second c)) → (e : Event) → SpellsEvent p e → IfOk r (λ event. event ≡ e)
told_event_of p header parts r is made e s = decoded p header is.contents e r (fits_from_are p is.are_bytes) is.stands is.shape s (made is.contents is.shown)

pub told_spelled : {E : Type 0} (p : List ℕ) (header : Header) (parts : Parts) (r : Result Event E) → IsTold p header parts
    → ((c : Contents) → ShowsParts parts c → IfOk r (λ event. event ≡ event_from header.first header.second c)) → IfOk r (SpellsEvent p)
told_spelled p header parts r is made = decoded_spelled p is.packet.0 r is.packet.1 (told_event_of p header parts r is made is.packet.0 is.packet.1)

-- the texts that its parts show were tested
pub parts_of_packet : (p : List ℕ) (header : Header) (parts : Parts) → AreBytes p → HeaderStands p header → IsPacket p → ((c : Contents) × FieldShapes header.first header.second (fields_at header p) c × ShowsParts parts c)
    → (c : Contents) × ShowsParts parts c × AreShortTexts c
parts_of_packet p header parts are stands (e, s) (c, shape, shown) = (c, shown, told_short_texts p _ _ _ header e c (told_at p header e are stands s) s shape)

pub told_parts : (p : List ℕ) (header : Header) (parts : Parts) → IsTold p header parts → (c : Contents) × ShowsParts parts c × AreShortTexts c
told_parts p header parts is = parts_of_packet p header parts (fits_from_are p is.are_bytes) is.stands is.packet (is.contents, is.shape, is.shown)

-- ---- the checksum first

pub short_of : (p : List ℕ) (header : Header) → HeaderStands p header → length p ≡ header.size → 4 ≤ length p
short_of p header stands size = omega (arith, room_of p header stands, size)

pub other_sum : (p : List ℕ) (header : Header) (sum : ℕ) → AreBytes p → HeaderStands p header → sum ≡ crc32 (take (length p - 4) p) → (drop (length p - 4) p ≡ to_be_bytes w32 sum → ⊥) → IsPacket p → ⊥
other_sum p header sum are stands is other (e, s) = other (rw is ((told_at p header e are stands s).sum))

are_from_fits : (p : List ℕ) → AreBytes p → grammar.AreBytes p
are_from_fits p are k d below = rw (get_or_default p k d 0 below) (omega (arith, are k))

pub told_by : (p : List ℕ) (header : Header) (parts : Parts) → AreBytes p → HeaderStands p header → IsPacket p → ((contents : Contents) × FieldShapes header.first header.second (fields_at header p) contents × ShowsParts parts contents) → IsTold p header parts
told_by p header parts are stands packet (contents, shape, shown) = record { are_bytes = are_from_fits p are; stands = stands; packet = packet; contents = contents; shape = shape; shown = shown }
