-- Of any list it can be told whether it spells a field or a packet: the parts into which it can be cut are few.
use Rattle.std.proofs.Common.{◌≡◌, ℕ, zero, suc, ◌+◌, ◌-◌, ◌*◌, ◌^◌, ◌<◌, ◌≤◌, Bool, true, false, true≢false, Option, Some, None, List, [], ◌∷◌, ◌++◌, length, drop, refl, inl, inr, sym, ap, ◌∙◌, subst, append_assoc, arith}
use Rattle.std.specs.Prelude.{is_some}
use Rattle.std.specs.Str.{is_utf8}
use Rattle.std.specs.Int.{w32, to_be_bytes, from_be_bytes}
use Rattle.std.specs.Int.Digits.{number_from_digits}
use Rattle.std.proofs.lemmas.Bool.{cases_eq}
use Rattle.std.proofs.lemmas.Nat.{from_be_bytes-to_be_bytes_4}
use Rattle.std.proofs.lemmas.Str.{IsUtf8-from_is_utf8, is_utf8-from_IsUtf8}
use Rattle.sub_number.specs.Numbers.{SpellsNumber}
use Rattle.sub_number.specs.Texts.{IsText, SpellsText}
use Rattle.sub_number.specs.Checksum.{crc32}
use Rattle.packet_codec.specs.declared.status.Status.{Status}
use Rattle.packet_codec.specs.declared.status.Status.TheVariants.{Unset, Exists, InProgress, Success, UxSuccess, Skip, Fail, XFail}
use Rattle.packet_codec.specs.declared.event.Event.{Event}
use Rattle.packet_codec.specs.Flags.{flag, status_number}
use Rattle.packet_codec.specs.Fields.{SpellsOptional, SpellsStamp, SpellsTexts, SpellsTags, SpellsFile, SpellsFields}
use Rattle.packet_codec.specs.Packet.{signature, SpellsEvent}
use Rattle.packet_codec.proofs.ShapeLemmas.{number_below}
use Rattle.packet_codec.proofs.DecidedLemmas.{Decided, decided_as, decided_both, decided_not, decided_less, decided_most, decided_true, decided_all, decided_lists, CanSearch, search_flags, search_both, Parted, decided_parts}

-- whether a list spells some value
abbrev CanRead : {A : Type 0} → (List ℕ → A → Type 0) → Type 0
CanRead {A} Spells = (bytes : List ℕ) → Decided ((value : A) × Spells bytes value)

-- ---- numbers and texts

pub decided_number : (bytes : List ℕ) (value : ℕ) → Decided (SpellsNumber bytes value)
decided_number bytes value =
    decided_as (λ all. record { some = all.0; few = all.1.0; fits = all.1.1.0; digits = all.1.1.1 }) (λ s. (s.some, (s.few, (s.fits, s.digits))))
    (decided_both (decided_most 1 (length bytes)) (decided_both (decided_most (length bytes) 4)
    (decided_both (decided_less value (2 ^ (8 * length bytes - 2))) (cases_eq (number_from_digits 256 bytes) ((length bytes - 1) * 2 ^ (8 * length bytes - 2) + value)))))

-- the one value that they may spell
pub number_of : List ℕ → ℕ
number_of bytes = number_from_digits 256 bytes - (length bytes - 1) * 2 ^ (8 * length bytes - 2)

pub number_is : (bytes : List ℕ) (value : ℕ) → SpellsNumber bytes value → value ≡ number_of bytes
unfolding number_of
number_is bytes value s = omega (arith, s.digits)

one_number : (bytes : List ℕ) (m n : ℕ) → SpellsNumber bytes m → SpellsNumber bytes n → m ≡ n
one_number bytes m n s t = number_is bytes m s ∙ sym (number_is bytes n t)

read_number : CanRead SpellsNumber
read_number bytes = decided_as (λ s. (number_of bytes, s)) (λ found. subst (SpellsNumber bytes) (number_is bytes found.0 found.1) found.1) (decided_number bytes (number_of bytes))

decided_text : (bytes : List ℕ) → Decided (IsText bytes)
decided_text bytes =
    decided_as (λ both. record { utf8 = IsUtf8-from_is_utf8 bytes both.0; no_nul = both.1 }) (λ is. (is_utf8-from_IsUtf8 bytes is.utf8, is.no_nul))
    (decided_both (decided_true (is_utf8 bytes)) (decided_all (λ byte. byte ≡ 0 → ⊥) (λ byte. decided_not (cases_eq byte 0)) bytes))

read_text : CanRead SpellsText
read_text bytes =
    decided_as (λ parted. (parted.rest, record { number = parted.front; parts = parted.parts; length_spelled = parted.holds.0; is_text = parted.holds.1 }))
    (λ found. record { front = found.1.number; rest = found.0; parts = found.1.parts; holds = (found.1.length_spelled, found.1.is_text) })
    (decided_parts (λ number text. SpellsNumber number (length text) × IsText text) (λ number text. decided_both (decided_number number (length text)) (decided_text text)) bytes)

-- ---- fields

-- so many texts
record Texts (count : ℕ) (bytes : List ℕ) : Type 0 where
  texts : List (List ℕ)
  size : length texts ≡ count
  spelled : SpellsTexts bytes texts

no_texts : (bytes : List ℕ) (texts : List (List ℕ)) → length texts ≡ 0 → SpellsTexts bytes texts → bytes ≡ []
no_texts bytes [] size spelled = spelled
no_texts bytes (text ∷ texts) size spelled = absurd (omega arith)

first_text : (count : ℕ) (bytes : List ℕ) (texts : List (List ℕ)) → length texts ≡ suc count → SpellsTexts bytes texts → Parted (λ front rest. ((text : List ℕ) × SpellsText front text) × Texts count rest) bytes
first_text count bytes [] size spelled = absurd (omega arith)
first_text count bytes (text ∷ texts) size (front, rest, parts, first, others) =
    record { front = front; rest = rest; parts = parts; holds = ((text, first), record { texts = texts; size = omega arith; spelled = others }) }

read_texts : (count : ℕ) (bytes : List ℕ) → Decided (Texts count bytes)
read_texts zero bytes = decided_as (λ none. record { texts = []; size = refl; spelled = none }) (λ all. no_texts bytes all.texts all.size all.spelled) (decided_lists bytes [])
read_texts (suc count) bytes =
    decided_as (λ parted. record {
      texts = parted.holds.0.0 ∷ parted.holds.1.texts;
      size = omega (arith, parted.holds.1.size);
      spelled = (parted.front, parted.rest, parted.parts, parted.holds.0.1, parted.holds.1.spelled);
    })
    (λ all. first_text count bytes all.texts all.size all.spelled)
    (decided_parts (λ front rest. ((text : List ℕ) × SpellsText front text) × Texts count rest) (λ front rest. decided_both (read_text front) (read_texts count rest)) bytes)

-- a number, and so many texts
numbered_texts : (count bytes : List ℕ) → Decided ((tags : List (List ℕ)) × (SpellsNumber count (length tags) × SpellsTexts bytes tags))
numbered_texts count bytes = elim (read_number count) [
  | inl number ↦
      decided_as (λ all. (all.texts, (subst (SpellsNumber count) (sym all.size) number.1, all.spelled)))
      (λ found. record { texts = found.0; size = one_number count (length found.0) number.0 found.1.0 number.1; spelled = found.1.1 })
      (read_texts number.0 bytes)
  | inr never ↦ inr (λ found. never (length found.0, found.1.0))
]

read_tags : CanRead SpellsTags
read_tags bytes =
    decided_as (λ parted. (parted.holds.0, record { count = parted.front; texts = parted.rest; parts = parted.parts; count_spelled = parted.holds.1.0; texts_spelled = parted.holds.1.1 }))
    (λ found. record { front = found.1.count; rest = found.1.texts; parts = found.1.parts; holds = (found.0, (found.1.count_spelled, found.1.texts_spelled)) })
    (decided_parts (λ count texts. (tags : List (List ℕ)) × (SpellsNumber count (length tags) × SpellsTexts texts tags)) numbered_texts bytes)

read_file : CanRead SpellsFile
read_file bytes =
    decided_as (λ parted. (
      record { name = parted.holds.0.0; bytes = parted.holds.1.rest },
      record {
        name = parted.front;
        count = parted.holds.1.front;
        parts = parted.parts ∙ ap (λ (l : List ℕ). parted.front ++ l) parted.holds.1.parts ∙ sym (append_assoc parted.front parted.holds.1.front parted.holds.1.rest);
        name_spelled = parted.holds.0.1;
        count_spelled = parted.holds.1.holds;
      },
    ))
    (λ found. record {
      front = found.1.name;
      rest = found.1.count ++ found.0.bytes;
      parts = found.1.parts ∙ append_assoc found.1.name found.1.count found.0.bytes;
      holds = ((found.0.name, found.1.name_spelled), record { front = found.1.count; rest = found.0.bytes; parts = refl; holds = found.1.count_spelled });
    })
    (decided_parts (λ name rest. ((text : List ℕ) × SpellsText name text) × Parted (λ count content. SpellsNumber count (length content)) rest)
    (λ name rest. decided_both (read_text name) (decided_parts (λ count content. SpellsNumber count (length content)) (λ count content. decided_number count (length content)) rest)) bytes)

-- four bytes of seconds
record Seconds (bytes : List ℕ) (seconds : ℕ) : Type 0 where
  fit : seconds < 2 ^ 32
  are : bytes ≡ to_be_bytes w32 seconds

read_seconds : CanRead Seconds
read_seconds bytes =
    decided_as (λ both. (from_be_bytes w32 bytes, record { fit = both.0; are = both.1 }))
    (λ found.
    let is : found.0 ≡ from_be_bytes w32 bytes = sym (ap (from_be_bytes w32) found.1.are ∙ from_be_bytes-to_be_bytes_4 found.0 found.1.fit) in
    (subst (λ (n : ℕ). n < 2 ^ 32) is found.1.fit, subst (λ (n : ℕ). bytes ≡ to_be_bytes w32 n) is found.1.are))
    (decided_both (decided_less (from_be_bytes w32 bytes) (2 ^ 32)) (decided_lists bytes (to_be_bytes w32 (from_be_bytes w32 bytes))))

read_stamp : CanRead SpellsStamp
read_stamp bytes =
    decided_as (λ parted. (
      record { seconds = parted.holds.0.0; nanos = parted.holds.1.0; nanos_fit = number_below parted.rest parted.holds.1.0 parted.holds.1.1 },
      record {
        nanos = parted.rest;
        parts = parted.parts ∙ ap (λ (l : List ℕ). l ++ parted.rest) parted.holds.0.1.are;
        seconds_fit = parted.holds.0.1.fit;
        nanos_spelled = parted.holds.1.1;
      },
    ))
    (λ found. record {
      front = to_be_bytes w32 found.0.seconds;
      rest = found.1.nanos;
      parts = found.1.parts;
      holds = ((found.0.seconds, record { fit = found.1.seconds_fit; are = refl }), (found.0.nanos, found.1.nanos_spelled));
    })
    (decided_parts (λ front rest. ((seconds : ℕ) × Seconds front seconds) × ((nanos : ℕ) × SpellsNumber rest nanos)) (λ front rest. decided_both (read_seconds front) (read_number rest)) bytes)

-- a field that is there or not
record Optional {A : Type 0} (Spells : List ℕ → A → Type 0) (there : Bool) (bytes : List ℕ) : Type 0 where
  value : Option A
  is_there : is_some value ≡ there
  spelled : SpellsOptional Spells bytes value

absent : {A : Type 0} (Spells : List ℕ → A → Type 0) (bytes : List ℕ) (o : Option A) → is_some o ≡ false → SpellsOptional Spells bytes o → bytes ≡ []
absent Spells bytes None is spelled = spelled
absent Spells bytes (Some a) is spelled = absurd (true≢false is)

present : {A : Type 0} (Spells : List ℕ → A → Type 0) (bytes : List ℕ) (o : Option A) → is_some o ≡ true → SpellsOptional Spells bytes o → (value : A) × Spells bytes value
present Spells bytes None is spelled = absurd (true≢false (sym is))
present Spells bytes (Some a) is spelled = (a, spelled)

read_optional : {A : Type 0} (Spells : List ℕ → A → Type 0) → CanRead Spells → (there : Bool) (bytes : List ℕ) → Decided (Optional Spells there bytes)
read_optional Spells read true bytes = decided_as (λ found. record { value = Some found.0; is_there = refl; spelled = found.1 }) (λ o. present Spells bytes o.value o.is_there o.spelled) (read bytes)
read_optional Spells read false bytes = decided_as (λ none. record { value = None; is_there = refl; spelled = none }) (λ o. absent Spells bytes o.value o.is_there o.spelled) (decided_lists bytes [])

-- ---- all fields

-- which fields an event has: a stamp, an id, tags, a MIME type, a file, a route; whether its test can be run, and its
-- file ends; its status
abbrev Kind : Type 0
Kind = Bool × (Bool × (Bool × (Bool × (Bool × (Bool × (Bool × (Bool × Status)))))))

abbrev kind_of : Event → Kind
kind_of e = (is_some e.stamp, (is_some e.id, (is_some e.tags, (is_some e.mime, (is_some e.file, (is_some e.route, (e.runnable, (e.eof, e.status))))))))

abbrev first_of : Kind → ℕ
first_of k = 0x20 + flag k.1.0 8 + flag k.1.1.1.1.1.0 4 + flag k.0 2 + flag k.1.1.1.1.1.1.0 1

abbrev second_of : Kind → ℕ
second_of k = flag k.1.1.0 128 + flag k.1.1.1.1.0 64 + flag k.1.1.1.0 32 + flag k.1.1.1.1.1.1.1.0 16 + status_number k.1.1.1.1.1.1.1.1

search_statuses : CanSearch Status
search_statuses P each = one_of (each Unset) (each Exists) (each InProgress) (each Success) (each UxSuccess) (each Skip) (each Fail) (each XFail)
  where
    one_of : Decided (P Unset) → Decided (P Exists) → Decided (P InProgress) → Decided (P Success) → Decided (P UxSuccess) → Decided (P Skip) → Decided (P Fail) → Decided (P XFail) → Decided ((status : Status) × P status)
    one_of (inl p) b c d e f g h = inl (Unset, p)
    one_of (inr n1) (inl p) c d e f g h = inl (Exists, p)
    one_of (inr n1) (inr n2) (inl p) d e f g h = inl (InProgress, p)
    one_of (inr n1) (inr n2) (inr n3) (inl p) e f g h = inl (Success, p)
    one_of (inr n1) (inr n2) (inr n3) (inr n4) (inl p) f g h = inl (UxSuccess, p)
    one_of (inr n1) (inr n2) (inr n3) (inr n4) (inr n5) (inl p) g h = inl (Skip, p)
    one_of (inr n1) (inr n2) (inr n3) (inr n4) (inr n5) (inr n6) (inl p) h = inl (Fail, p)
    one_of (inr n1) (inr n2) (inr n3) (inr n4) (inr n5) (inr n6) (inr n7) (inl p) = inl (XFail, p)
    one_of (inr n1) (inr n2) (inr n3) (inr n4) (inr n5) (inr n6) (inr n7) (inr n8) = inr none
      where
        none : (status : Status) × P status → ⊥
        none (Unset, p) = n1 p
        none (Exists, p) = n2 p
        none (InProgress, p) = n3 p
        none (Success, p) = n4 p
        none (UxSuccess, p) = n5 p
        none (Skip, p) = n6 p
        none (Fail, p) = n7 p
        none (XFail, p) = n8 p

search_kinds : CanSearch Kind
search_kinds = search_both search_flags (search_both search_flags (search_both search_flags (search_both search_flags (search_both search_flags (search_both search_flags (search_both search_flags (search_both search_flags search_statuses)))))))

-- one after the other
abbrev OneBehindOther : (List ℕ → Type 0) → (List ℕ → Type 0) → List ℕ → Type 0
OneBehindOther P Q bytes = Parted (λ front rest. P front × Q rest) bytes

read_behind : (P Q : List ℕ → Type 0) → ((bytes : List ℕ) → Decided (P bytes)) → ((bytes : List ℕ) → Decided (Q bytes)) → (bytes : List ℕ) → Decided (OneBehindOther P Q bytes)
read_behind P Q first second bytes = decided_parts (λ front rest. P front × Q rest) (λ front rest. decided_both (first front) (second rest)) bytes

abbrev FromFile : Kind → List ℕ → Type 0
FromFile k = OneBehindOther (Optional SpellsFile k.1.1.1.1.0) (Optional SpellsText k.1.1.1.1.1.0)

abbrev FromMime : Kind → List ℕ → Type 0
FromMime k = OneBehindOther (Optional SpellsText k.1.1.1.0) (FromFile k)

abbrev FromTags : Kind → List ℕ → Type 0
FromTags k = OneBehindOther (Optional SpellsTags k.1.1.0) (FromMime k)

abbrev FromId : Kind → List ℕ → Type 0
FromId k = OneBehindOther (Optional SpellsText k.1.0) (FromTags k)

abbrev FromStamp : Kind → List ℕ → Type 0
FromStamp k = OneBehindOther (Optional SpellsStamp k.0) (FromId k)

read_all : (k : Kind) (bytes : List ℕ) → Decided (FromStamp k bytes)
read_all k =
    read_behind (Optional SpellsStamp k.0) (FromId k) (read_optional SpellsStamp read_stamp k.0) (
    read_behind (Optional SpellsText k.1.0) (FromTags k) (read_optional SpellsText read_text k.1.0) (
    read_behind (Optional SpellsTags k.1.1.0) (FromMime k) (read_optional SpellsTags read_tags k.1.1.0) (
    read_behind (Optional SpellsText k.1.1.1.0) (FromFile k) (read_optional SpellsText read_text k.1.1.1.0) (
    read_behind (Optional SpellsFile k.1.1.1.1.0) (Optional SpellsText k.1.1.1.1.1.0) (read_optional SpellsFile read_file k.1.1.1.1.0) (read_optional SpellsText read_text k.1.1.1.1.1.0)))))

-- the fields of an event of this kind
record KindFields (k : Kind) (bytes : List ℕ) : Type 0 where
  event : Event
  kind : kind_of event ≡ k
  spelled : SpellsFields bytes event

regrouped : (a b c d e f : List ℕ) → a ++ b ++ c ++ d ++ e ++ f ≡ a ++ (b ++ (c ++ (d ++ (e ++ f))))
regrouped a b c d e f = simp append_assoc

fields_from : (k : Kind) (bytes : List ℕ) → FromStamp k bytes → KindFields k bytes
fields_from k bytes s =
    let from_id = s.holds.1 in
    let from_tags = from_id.holds.1 in
    let from_mime = from_tags.holds.1 in
    let from_file = from_mime.holds.1 in
    let stamp = s.holds.0 in
    let id = from_id.holds.0 in
    let tags = from_tags.holds.0 in
    let mime = from_mime.holds.0 in
    let file = from_file.holds.0 in
    let route = from_file.holds.1 in
    record {
      event = record { stamp = stamp.value; id = id.value; tags = tags.value; runnable = k.1.1.1.1.1.1.0; status = k.1.1.1.1.1.1.1.1; mime = mime.value; file = file.value; eof = k.1.1.1.1.1.1.1.0; route = route.value };
      kind = λ i. (stamp.is_there i, (id.is_there i, (tags.is_there i, (mime.is_there i, (file.is_there i, (route.is_there i, (k.1.1.1.1.1.1.0, (k.1.1.1.1.1.1.1.0, k.1.1.1.1.1.1.1.1))))))));
      spelled = record {
        stamp = s.front;
        id = from_id.front;
        tags = from_tags.front;
        mime = from_mime.front;
        file = from_file.front;
        route = from_file.rest;
        parts = s.parts ∙ ap (λ (l : List ℕ). s.front ++ l) (from_id.parts ∙ ap (λ (l : List ℕ). from_id.front ++ l) (from_tags.parts ∙ ap (λ (l : List ℕ). from_tags.front ++ l) (from_mime.parts ∙ ap (λ (l : List ℕ). from_mime.front ++ l) from_file.parts))) ∙ sym (regrouped s.front from_id.front from_tags.front from_mime.front from_file.front from_file.rest);
        stamp_spelled = stamp.spelled;
        id_spelled = id.spelled;
        tags_spelled = tags.spelled;
        mime_spelled = mime.spelled;
        file_spelled = file.spelled;
        route_spelled = route.spelled;
      };
    }

fields_to : (k : Kind) (bytes : List ℕ) → KindFields k bytes → FromStamp k bytes
fields_to k bytes f =
    let e = f.event in
    let s = f.spelled in
    record {
      front = s.stamp;
      rest = s.id ++ (s.tags ++ (s.mime ++ (s.file ++ s.route)));
      parts = s.parts ∙ regrouped s.stamp s.id s.tags s.mime s.file s.route;
      holds = (
        record { value = e.stamp; is_there = λ i. (f.kind i).0; spelled = s.stamp_spelled },
        record {
          front = s.id;
          rest = s.tags ++ (s.mime ++ (s.file ++ s.route));
          parts = refl;
          holds = (
            record { value = e.id; is_there = λ i. (f.kind i).1.0; spelled = s.id_spelled },
            record {
              front = s.tags;
              rest = s.mime ++ (s.file ++ s.route);
              parts = refl;
              holds = (
                record { value = e.tags; is_there = λ i. (f.kind i).1.1.0; spelled = s.tags_spelled },
                record {
                  front = s.mime;
                  rest = s.file ++ s.route;
                  parts = refl;
                  holds = (
                    record { value = e.mime; is_there = λ i. (f.kind i).1.1.1.0; spelled = s.mime_spelled },
                    record {
                      front = s.file;
                      rest = s.route;
                      parts = refl;
                      holds = (record { value = e.file; is_there = λ i. (f.kind i).1.1.1.1.0; spelled = s.file_spelled }, record { value = e.route; is_there = λ i. (f.kind i).1.1.1.1.1.0; spelled = s.route_spelled });
                    },
                  );
                },
              );
            },
          );
        },
      );
    }

read_fields : (k : Kind) (bytes : List ℕ) → Decided (KindFields k bytes)
read_fields k bytes = decided_as (fields_from k bytes) (fields_to k bytes) (read_all k bytes)

-- ---- packets

-- a packet of an event of this kind
record KindPacket (bytes : List ℕ) (k : Kind) : Type 0 where
  event : Event
  kind : kind_of event ≡ k
  spelled : SpellsEvent bytes event

-- the size of the whole, and the fields
abbrev Sized : Kind → ℕ → List ℕ → Type 0
Sized k whole = Parted (λ size fields. SpellsNumber size whole × ((length size ≤ 3) × KindFields k fields))

read_sized : (k : Kind) (whole : ℕ) (bytes : List ℕ) → Decided (Sized k whole bytes)
read_sized k whole bytes =
    decided_parts (λ size fields. SpellsNumber size whole × ((length size ≤ 3) × KindFields k fields))
    (λ size fields. decided_both (decided_number size whole) (decided_both (decided_most (length size) 3) (read_fields k fields))) bytes

-- a body and its checksum
abbrev Summed : Kind → ℕ → List ℕ → List ℕ → Type 0
Summed k whole body sum = (sum ≡ to_be_bytes w32 (crc32 body)) × ((body ≡ signature ∷ first_of k ∷ second_of k ∷ drop 3 body) × Sized k whole (drop 3 body))

packet_from : (bytes : List ℕ) (k : Kind) → Parted (Summed k (length bytes)) bytes → KindPacket bytes k
packet_from bytes k s =
    let sized = s.holds.1.1 in
    let fields = sized.holds.1.1 in
    record {
      event = fields.event;
      kind = fields.kind;
      spelled = record {
        size = sized.front;
        fields = sized.rest;
        body = s.front;
        body_is = s.holds.1.0 ∙ (λ i. signature ∷ first_of (sym fields.kind i) ∷ second_of (sym fields.kind i) ∷ sized.parts i);
        parts = s.parts ∙ ap (λ (l : List ℕ). s.front ++ l) s.holds.0;
        size_spelled = sized.holds.0;
        size_short = sized.holds.1.0;
        fields_spelled = fields.spelled;
      };
    }

packet_to : (bytes : List ℕ) (k : Kind) → KindPacket bytes k → Parted (Summed k (length bytes)) bytes
packet_to bytes k p =
    let s = p.spelled in
    let behind : drop 3 s.body ≡ s.size ++ s.fields = ap (drop 3) s.body_is in
    record {
      front = s.body;
      rest = to_be_bytes w32 (crc32 s.body);
      parts = s.parts;
      holds = (
        refl,
        (
          s.body_is ∙ (λ i. signature ∷ first_of (p.kind i) ∷ second_of (p.kind i) ∷ sym behind i),
          record { front = s.size; rest = s.fields; parts = behind; holds = (s.size_spelled, (s.size_short, record { event = p.event; kind = p.kind; spelled = s.fields_spelled })) },
        ),
      );
    }

read_kind : (bytes : List ℕ) (k : Kind) → Decided (KindPacket bytes k)
read_kind bytes k =
    decided_as (packet_from bytes k) (packet_to bytes k)
    (decided_parts (Summed k (length bytes)) (λ body sum. decided_both (decided_lists sum (to_be_bytes w32 (crc32 body)))
    (decided_both (decided_lists body (signature ∷ first_of k ∷ second_of k ∷ drop 3 body)) (read_sized k (length bytes) (drop 3 body)))) bytes)

-- whether a list is a packet
pub read_packet : (bytes : List ℕ) → Decided ((event : Event) × SpellsEvent bytes event)
read_packet bytes =
    decided_as (λ found. (found.1.event, found.1.spelled)) (λ packet. (kind_of packet.0, record { event = packet.0; kind = refl; spelled = packet.1 })) (search_kinds (KindPacket bytes) (read_kind bytes))
