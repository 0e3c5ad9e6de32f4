-- Notes in turn, one more at the end.
use Rattle.std.proofs.Common.{◌≡◌, ℕ, suc, ◌-◌, ◌<◌, Bool, true, false, cond, Option, Some, None, is_some, List, [], ◌∷◌, ◌++◌, length, get_or, refl, sym, ap, subst, ◌∙◌, append_assoc, arith}
use Rattle.std.specs.Prelude.{codes}
use Rattle.std.proofs.lemmas.Bool.{cond-true}
use Rattle.std.proofs.lemmas.List.{append-nil}
use Rattle.std.specs.Option.{option_map}
use Rattle.packet_codec.specs.declared.event.Event.{Event}
use Rattle.packet_codec.specs.declared.event.FilePart.{FilePart}
use Rattle.stream_reader.specs.declared.note.Note.{Note}
use Rattle.stream_reader.specs.declared.note.Note.TheVariants as note
use Rattle.outcome_fold.specs.declared.part.EndedPart.{EndedPart}
use Rattle.outcome_fold.specs.declared.test_key.TestKey.{TestKey}
use Rattle.outcome_fold.specs.declared.fold.Fold.{Fold}
use Rattle.outcome_fold.specs.Parts.{test_of, ended_by}
use Rattle.outcome_fold.specs.Folded.{HasSeen}
use Rattle.outcome_fold.specs.Files.{text_shown}
use Rattle.outcome_fold.specs.Order.{in_byte_order}
use Rattle.outcome_fold.specs.EndedParts.{completed_part, part_completing, open_parts}
use Rattle.v1_bridge.specs.Writing.{last_byte_behind, note_text, event_text, completed_text, file_bytes, outside_bytes, ended_part_text, parts_text, seen_with, events_behind_notes, events_in, text_behind, text_so_far, last_byte, added_text, text_at_end, is_written, newline_behind, time_line, test_begin_line, v1_tags_line, outcome_word, outcome_line, shown_id, has_details, detail_lines, lines_of_part}

pub last_then : (before : ℕ) (xs ys : List ℕ) → last_byte_behind before (xs ++ ys) ≡ last_byte_behind (last_byte_behind before xs) ys
last_then before [] ys = refl
last_then before (x ∷ xs) ys = last_then x xs ys

-- the last of some bytes stands at their last place
pub last_at : (before : ℕ) (bytes : List ℕ) → 0 < length bytes → get_or bytes (length bytes - 1) 0 ≡ last_byte_behind before bytes
last_at before [] some = absurd (omega (arith, some))
last_at before (x ∷ []) some = refl
last_at before (x ∷ y ∷ bytes) some =
    let place : length (x ∷ y ∷ bytes) - 1 ≡ suc (length (y ∷ bytes) - 1) = omega arith in
    ap (λ n. get_or (x ∷ y ∷ bytes) n 0) place ∙ last_at x (y ∷ bytes) (omega arith)

pub events_push : (seen : List Event) (notes : List Note) (n : Note) → events_behind_notes seen (notes ++ n ∷ []) ≡ seen_with (events_behind_notes seen notes) n
events_push seen [] n = refl
events_push seen (m ∷ notes) n = events_push (seen_with seen m) notes n

text_push : (last : ℕ) (seen : List Event) (notes : List Note) (n : Note) → text_behind last seen (notes ++ n ∷ []) ≡ text_behind last seen notes ++ note_text (last_byte_behind last (text_behind last seen notes)) (events_behind_notes seen notes) n
text_push last seen [] n = append-nil (note_text last seen n)
text_push last seen (m ∷ notes) n =
    let this = note_text last seen m in
    let rest = text_behind (last_byte_behind last this) (seen_with seen m) notes in
    let events = events_behind_notes (seen_with seen m) notes in
    ap (λ (l : List ℕ). this ++ l) (text_push (last_byte_behind last this) (seen_with seen m) notes n)
    ∙ sym (append_assoc this rest (note_text (last_byte_behind (last_byte_behind last this) rest) events n))
    ∙ ap (λ b. (this ++ rest) ++ note_text b events n) (sym (last_then last this rest))

-- what is written of one note more comes behind all before
pub so_far_push : (notes : List Note) (n : Note) → text_so_far (notes ++ n ∷ []) ≡ text_so_far notes ++ added_text notes n
so_far_push notes n = text_push 10 [] notes n

pub last_push : (notes : List Note) (n : Note) (last : ℕ) (text : List ℕ) (now : ℕ) → last ≡ last_byte notes → text ≡ added_text notes n → now ≡ last_byte_behind last text → now ≡ last_byte (notes ++ n ∷ [])
last_push notes n last text now before is after =
    after ∙ ap (λ b. last_byte_behind b text) before ∙ ap (last_byte_behind (last_byte notes)) is
    ∙ sym (last_then 10 (text_so_far notes) (added_text notes n)) ∙ ap (last_byte_behind 10) (sym (so_far_push notes n))

-- what is written of an event, by the test that it speaks of
pub of_no_test : (last : ℕ) (seen : List Event) (e : Event) → e.id ≡ None → file_bytes e.file ≡ event_text last seen e (test_of e)
of_no_test last seen e none = ap (λ (id : Option (List ℕ)). event_text last seen e (option_map (λ (id : List ℕ). record { route = e.route; id = id }) id)) (sym none)

pub of_test : (last : ℕ) (seen : List Event) (e : Event) (id : List ℕ) (part : Option EndedPart) → e.id ≡ Some id → part ≡ completed_part seen e → completed_text last part ≡ event_text last seen e (test_of e)
of_test last seen e id part some is =
    ap (completed_text last) is
    ∙ ap (λ (id : Option (List ℕ)). event_text last seen e (option_map (λ (id : List ℕ). record { route = e.route; id = id }) id)) (sym some)

abbrev test_by : Event → Option (List ℕ) → Option TestKey
test_by e id = option_map (λ (id : List ℕ). record { route = e.route; id = id }) id

-- an event that completes no part
pub of_none : (last : ℕ) (seen : List Event) (e : Event) → None ≡ completed_part seen e → outside_bytes e.id e.file ≡ event_text last seen e (test_of e)
of_none last seen e none = by_id e.id
  where
    by_id : (id : Option (List ℕ)) → outside_bytes id e.file ≡ event_text last seen e (test_by e id)
    by_id None = refl
    by_id (Some id) = ap (completed_text last) none

-- an event that completes this part
pub of_part : (last : ℕ) (seen : List Event) (e : Event) (part : EndedPart) → Some part ≡ completed_part seen e → ended_part_text last part ≡ event_text last seen e (test_of e)
of_part last seen e part is = by_test (test_of e) refl
  where
    by_test : (test : Option TestKey) → test_of e ≡ test → ended_part_text last part ≡ event_text last seen e test
    by_test None none = let wrong : Some part ≡ None = is ∙ ap (λ test. part_completing test (ended_by e.status) seen e) none in cc
    by_test (Some test) some = ap (completed_text last) is

-- what is written of an event
pub added_is : (notes : List Note) (e : Event) (last : ℕ) (text : List ℕ) → last ≡ last_byte notes → text ≡ event_text last (events_in notes) e (test_of e) → text ≡ added_text notes (note.Event e)
added_is notes e last text at is = is ∙ ap (λ b. event_text b (events_in notes) e (test_of e)) at

-- it is appended
pub text_added : (notes : List Note) (e : Event) (last : ℕ) (old new text : List ℕ) → last ≡ last_byte notes → new ≡ old ++ text → text ≡ event_text last (events_in notes) e (test_of e) → new ≡ old ++ added_text notes (note.Event e)
text_added notes e last old new text at more is = more ∙ ap (λ (l : List ℕ). old ++ l) (added_is notes e last text at is)

pub last_added : (notes : List Note) (e : Event) (last now : ℕ) (text : List ℕ) → last ≡ last_byte notes → now ≡ last_byte_behind last text → text ≡ event_text last (events_in notes) e (test_of e) → now ≡ last_byte (notes ++ note.Event e ∷ [])
last_added notes e last now text at after is = last_push notes (note.Event e) last text now at (added_is notes e last text at is) after

-- the events that a fold has seen, with one more
pub seen_more : (fold now : Fold) (notes : List Note) (e : Event) → now ≡ fold → HasSeen fold (events_in notes ++ e ∷ []) → HasSeen now (events_in (notes ++ note.Event e ∷ []))
seen_more fold now notes e same seen = subst (λ (f : Fold). HasSeen f (events_in (notes ++ note.Event e ∷ []))) (sym same) (subst (HasSeen fold) (sym (events_push [] notes (note.Event e))) seen)

-- foreign bytes more
pub seen_still : (fold now : Fold) (notes : List Note) (bytes : List ℕ) → now ≡ fold → HasSeen fold (events_in notes) → HasSeen now (events_in (notes ++ note.Foreign bytes ∷ []))
seen_still fold now notes bytes same seen = subst (λ (f : Fold). HasSeen f (events_in (notes ++ note.Foreign bytes ∷ []))) (sym same) (subst (HasSeen fold) (sym (events_push [] notes (note.Foreign bytes))) seen)

-- the bytes of a file that is told or not
pub file_is : (file : Option FilePart) (bytes : List ℕ) → ◌≡◌ {A = Option (List ℕ)} (Some bytes) (option_map (λ (file : FilePart). file.bytes) file) → bytes ≡ file_bytes file
file_is None bytes is = cc
file_is (Some file) bytes is = cc

pub no_file : (file : Option FilePart) → ◌≡◌ {A = Option (List ℕ)} None (option_map (λ (file : FilePart). file.bytes) file) → file_bytes file ≡ []
no_file None is = refl
no_file (Some file) is = cc

-- nothing stands outside a test
pub outside_none : (id : Option (List ℕ)) (file : Option FilePart) → file_bytes file ≡ [] → outside_bytes id file ≡ []
outside_none None file none = none
outside_none (Some id) file none = refl

-- what is written at the end
pub ends_with : (notes : List Note) (last : ℕ) (parts : List EndedPart) (old new : List ℕ) → last ≡ last_byte notes → parts ≡ open_parts (events_in notes) → new ≡ old ++ parts_text last parts → new ≡ old ++ text_at_end notes
ends_with notes last parts old new at is more = more ∙ (λ i. old ++ parts_text (at i) (is i))

-- one part more
pub parts_push : (last : ℕ) (parts : List EndedPart) (p : EndedPart) → parts_text last (parts ++ p ∷ []) ≡ parts_text last parts ++ ended_part_text (last_byte_behind last (parts_text last parts)) p
parts_push last [] p = append-nil (ended_part_text last p)
parts_push last (q ∷ parts) p =
    let this = ended_part_text last q in
    let rest = parts_text (last_byte_behind last this) parts in
    ap (λ (l : List ℕ). this ++ l) (parts_push (last_byte_behind last this) parts p)
    ∙ sym (append_assoc this rest (ended_part_text (last_byte_behind (last_byte_behind last this) rest) p))
    ∙ ap (λ b. (this ++ rest) ++ ended_part_text b p) (sym (last_then last this rest))

pub parts_more : (old out new : List ℕ) (last before : ℕ) (parts : List EndedPart) (p : EndedPart) → out ≡ old ++ parts_text last parts → before ≡ last_byte_behind last (parts_text last parts) → new ≡ out ++ ended_part_text before p → new ≡ old ++ parts_text last (parts ++ p ∷ [])
parts_more old out new last before parts p is at more =
    more ∙ ap (λ (l : List ℕ). l ++ ended_part_text before p) is
    ∙ append_assoc old (parts_text last parts) (ended_part_text before p)
    ∙ ap (λ b. old ++ (parts_text last parts ++ ended_part_text b p)) at
    ∙ ap (λ (l : List ℕ). old ++ l) (sym (parts_push last parts p))

pub last_more : (last before now : ℕ) (parts : List EndedPart) (p : EndedPart) → before ≡ last_byte_behind last (parts_text last parts) → now ≡ last_byte_behind before (ended_part_text before p) → now ≡ last_byte_behind last (parts_text last (parts ++ p ∷ []))
last_more last before now parts p at is =
    is ∙ ap (λ b. last_byte_behind b (ended_part_text b p)) at
    ∙ sym (last_then last (parts_text last parts) (ended_part_text (last_byte_behind last (parts_text last parts)) p)) ∙ ap (last_byte_behind last) (sym (parts_push last parts p))

-- the last byte of what is written of a part is a newline

last_details : (before : ℕ) (text : List ℕ) (b : Bool) (lines : List ℕ) → last_byte_behind before (text ++ cond b (codes " [\n" ++ lines ++ codes "]\n") (codes "\n")) ≡ 10
last_details before text false lines = last_then before text (codes "\n")
last_details before text true lines =
    last_then before text (codes " [\n" ++ lines ++ codes "]\n") ∙ last_then (last_byte_behind before text) (codes " [\n" ++ lines) (codes "]\n")

pub ends_line : (before : ℕ) (p : EndedPart) → last_byte_behind before (lines_of_part p) ≡ 10
ends_line before p =
    let front = time_line p.started.start ++ test_begin_line p.key.id ++ v1_tags_line (in_byte_order p.started.tags) ++ time_line p.end in
    last_then before front (outcome_line p.ended p.key.id (text_shown p.started.files))
    ∙ last_details (last_byte_behind before front) (outcome_word p.ended ++ shown_id p.key.id) (has_details p.ended (text_shown p.started.files)) (detail_lines p.ended (text_shown p.started.files))

pub written_ends : (last : ℕ) (p : EndedPart) → is_written p.ended ≡ true → 10 ≡ last_byte_behind last (ended_part_text last p)
written_ends last p written =
    sym (ap (last_byte_behind last) (cond-true (is_written p.ended) (newline_behind last ++ lines_of_part p) [] written)
    ∙ last_then last (newline_behind last) (lines_of_part p) ∙ ends_line (last_byte_behind last (newline_behind last)) p)

-- whether an event speaks of a test
pub outside_named : (id : Option (List ℕ)) (file : Option FilePart) → true ≡ is_some id → outside_bytes id file ≡ []
outside_named None file named = cc
outside_named (Some id) file named = refl

pub outside_is : (id : Option (List ℕ)) (file : Option FilePart) (bytes : List ℕ) → false ≡ is_some id → ◌≡◌ {A = Option (List ℕ)} (Some bytes) (option_map (λ (file : FilePart). file.bytes) file) → bytes ≡ outside_bytes id file
outside_is None file bytes named is = file_is file bytes is
outside_is (Some id) file bytes named is = cc
