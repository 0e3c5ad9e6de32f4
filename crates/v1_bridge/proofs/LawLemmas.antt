-- What is written of events is read again.
use Rattle.std.specs.Prelude.{⊤}
use Rattle.std.proofs.Common.{◌≡◌, ℕ, Bool, true, false, cond, Option, Some, None, List, [], ◌∷◌, ◌++◌, map, All, refl, sym, ap, subst, ◌∙◌, append_assoc, append-nil, arith, is_some}
use Rattle.std.specs.List.{filter, filter_map, list_any, cons_option}
use Rattle.std.specs.FinMap as fin
use Rattle.std.specs.FinMap.{put, entries-insert, len-entries, len-empty}
use Rattle.std.specs.FinMap.Entries.{by_order}
use Rattle.std.specs.declared.cmp.Ordering.{Ordering}
use Rattle.std.specs.declared.cmp.Ordering.TheVariants.{Less, Equal, Greater}
use Rattle.std.specs.Option.{option_map, option_to_list, unwrap_or}
use Rattle.std.proofs.lemmas.Bool.{cond_both}
use Rattle.std.proofs.lemmas.List.{map-append}
use Rattle.std.proofs.lemmas.List.Elements.{All-head, All-tail}
use Rattle.packet_codec.specs.declared.event.Event.{Event}
use Rattle.stream_reader.specs.declared.note.Note.{Note}
use Rattle.stream_reader.specs.declared.note.Note.TheVariants as note
use Rattle.outcome_fold.specs.declared.row.Ended.{Ended}
use Rattle.outcome_fold.specs.declared.row.Ended.TheVariants as ended
use Rattle.outcome_fold.specs.declared.row.Row.{Row}
use Rattle.outcome_fold.specs.declared.test_key.TestKey.{TestKey}
use Rattle.outcome_fold.specs.declared.part.EndedPart.{EndedPart}
use Rattle.outcome_fold.specs.Order.{test_cmp, table, in_byte_order}
use Rattle.outcome_fold.specs.Parts.{test_of, speaks_of, events_of_test, ended_by, has_end_status, last_part, last_tags, start_of, elapsed}
use Rattle.outcome_fold.specs.Files.{text_of}
use Rattle.outcome_fold.specs.Rows.{part_with, row_completing, completed_row, completed_behind, is_open, open_tests, open_rows, rows_of}
use Rattle.outcome_fold.specs.Started.{started_of}
use Rattle.outcome_fold.specs.EndedParts.{part_completing, completed_part, part_of_open, open_parts, row_of_part}
use Rattle.outcome_fold.proofs.OrderLemmas.{tests_total, exact_tests}
use Rattle.outcome_fold.proofs.TableLemmas.{none_of_length}
use Rattle.outcome_fold.proofs.CloseLemmas.{table_with}
use Rattle.outcome_fold.proofs.SetLemmas.{order_of_none}
use Rattle.v1_bridge.specs.Cutting.{lines_of}
use Rattle.v1_bridge.specs.Reading.{events_at_end, v1_events}
use Rattle.v1_bridge.specs.Writing.{last_byte_behind, is_written, ended_part_text, completed_text, event_text, events_behind_notes, text_behind, text_so_far, last_byte, parts_text, v1_text}
use Rattle.v1_bridge.specs.Laws.{IsPlainEvent, IsPlainId, HasPlainTags, ArePlainTags, said_of, said_again, row_is_written, written_rows, SaysAgain}
use Rattle.v1_bridge.proofs.WriteLemmas.{last_then, of_test}
use Rattle.v1_bridge.proofs.BlockLemmas.{rows_told}
use Rattle.v1_bridge.proofs.PartLemmas.{saying_of, IsPlainPart, ArePlainParts, part_is_written, sayings_of, part_ends, leads_parts}

-- ---- plain events

abbrev ArePlainEvents : List Event → Type 0
ArePlainEvents [] = ⊤
ArePlainEvents (e ∷ es) = IsPlainEvent e × ArePlainEvents es

each_plain : (es : List Event) → All IsPlainEvent es → ArePlainEvents es
each_plain [] all = tt
each_plain (e ∷ es) all = (All-head IsPlainEvent e es all, each_plain es (All-tail IsPlainEvent e es all))

plain_push : (es : List Event) (e : Event) → ArePlainEvents es → IsPlainEvent e → ArePlainEvents (es ++ e ∷ [])
plain_push [] e all this = (this, tt)
plain_push (x ∷ es) e all this = (all.0, plain_push es e all.1 this)

plain_filtered : (p : Event → Bool) (es : List Event) → ArePlainEvents es → ArePlainEvents (filter p es)
plain_filtered p [] all = tt
plain_filtered p (e ∷ es) all = cond_both (p e) (e ∷ filter p es) (filter p es) ArePlainEvents (λ is. (all.0, plain_filtered p es all.1)) (λ is. plain_filtered p es all.1)

plain_part : (es : List Event) → ArePlainEvents es → ArePlainEvents (last_part es)
plain_part [] all = tt
plain_part (e ∷ es) all = cond_both (list_any has_end_status (e ∷ es)) (last_part es) (e ∷ es) ArePlainEvents (λ is. plain_part es all.1) (λ is. all)

no_tags : ArePlainTags (in_byte_order [])
no_tags = subst ArePlainTags (sym order_of_none) (record { forms = refl; texts = refl; short = omega arith })

own_tags : (tags : Option (List (List ℕ))) → HasPlainTags tags → ArePlainTags (in_byte_order (unwrap_or tags []))
own_tags None plain = no_tags
own_tags (Some names) plain = plain

plain_tags : (es : List Event) → ArePlainEvents es → ArePlainTags (in_byte_order (last_tags es))
plain_tags [] all = no_tags
plain_tags (e ∷ es) all =
    cond_both (list_any (λ e. is_some e.tags) es) (last_tags es) (unwrap_or e.tags []) (λ names. ArePlainTags (in_byte_order names)) (λ is. plain_tags es all.1) (λ is. own_tags e.tags all.0.tags)

-- ---- the parts that events complete

abbrev completed_parts : List Event → List Event → List EndedPart
completed_parts seen [] = []
completed_parts seen (e ∷ es) = option_to_list (completed_part seen e) ++ completed_parts (seen ++ e ∷ []) es

part_plain : (seen : List Event) (e : Event) (test : TestKey) → ArePlainEvents seen → IsPlainEvent e → IsPlainId test.id → ArePlainTags (in_byte_order (started_of (part_with test seen e)).tags)
part_plain seen e test all this id = plain_tags (part_with test seen e) (plain_push (last_part (events_of_test test seen)) e (plain_part (events_of_test test seen) (plain_filtered (λ e. speaks_of test (test_of e)) seen all)) this)

one_plain : (seen : List Event) (e : Event) (id : Option (List ℕ)) (how : Option Ended) → ArePlainEvents seen → IsPlainEvent e → ((i : List ℕ) → id ≡ Some i → IsPlainId i) → ArePlainParts (option_to_list (part_completing (option_map (λ id. record { route = e.route; id = id }) id) how seen e))
one_plain seen e None how all this plain = tt
one_plain seen e (Some id) None all this plain = tt
one_plain seen e (Some id) (Some how) all this plain = (record { id = plain id refl; tags = part_plain seen e (record { route = e.route; id = id }) all this (plain id refl) }, tt)

its_id : (e : Event) → IsPlainEvent e → (i : List ℕ) → e.id ≡ Some i → IsPlainId i
its_id e this i is = subst IsPlainId (same this.id i (sym this.has_id ∙ is)) this.plain
  where
    same : (x y : List ℕ) → ◌≡◌ {A = Option (List ℕ)} (Some x) (Some y) → x ≡ y
    same x y is = cc

parts_then : (xs ys : List EndedPart) → ArePlainParts xs → ArePlainParts ys → ArePlainParts (xs ++ ys)
parts_then [] ys first later = later
parts_then (x ∷ xs) ys first later = (first.0, parts_then xs ys first.1 later)

completed_plain : (seen es : List Event) → ArePlainEvents seen → ArePlainEvents es → ArePlainParts (completed_parts seen es)
completed_plain seen [] all more = tt
completed_plain seen (e ∷ es) all more =
    parts_then (option_to_list (completed_part seen e)) (completed_parts (seen ++ e ∷ []) es) (one_plain seen e e.id (ended_by e.status) all more.0 (its_id e more.0)) (completed_plain (seen ++ e ∷ []) es (plain_push seen e all more.0) more.1)

-- ---- the parts that are open at the end

abbrev ArePlainKeys : List TestKey → Type 0
ArePlainKeys [] = ⊤
ArePlainKeys (t ∷ tests) = IsPlainId t.id × ArePlainKeys tests

with_key : (e : Event) (es : List Event) (id : Option (List ℕ)) → ((i : List ℕ) → id ≡ Some i → IsPlainId i) → ArePlainKeys (filter_map test_of es) → ArePlainKeys (cons_option (option_map (λ id. record { route = e.route; id = id }) id) (filter_map test_of es))
with_key e es None plain rest = rest
with_key e es (Some i) plain rest = (plain i refl, rest)

keys_of : (es : List Event) → ArePlainEvents es → ArePlainKeys (filter_map test_of es)
keys_of [] all = tt
keys_of (e ∷ es) all = with_key e es e.id (its_id e all.0) (keys_of es all.1)

keys_kept : (p : TestKey → Bool) (tests : List TestKey) → ArePlainKeys tests → ArePlainKeys (filter p tests)
keys_kept p [] all = tt
keys_kept p (t ∷ tests) all = cond_both (p t) (t ∷ filter p tests) (filter p tests) ArePlainKeys (λ is. (all.0, keys_kept p tests all.1)) (λ is. keys_kept p tests all.1)

abbrev Entries : Type 0
Entries = List (TestKey × EndedPart)

abbrev ArePlainEntries : Entries → Type 0
ArePlainEntries [] = ⊤
ArePlainEntries (e ∷ es) = IsPlainPart e.1 × ArePlainEntries es

put_at : (t : TestKey) (p : EndedPart) (e : TestKey × EndedPart) (es : Entries) (r : Ordering) → IsPlainPart p → IsPlainPart e.1 → ArePlainEntries es → ArePlainEntries (put test_cmp t p es)
    → ArePlainEntries (by_order r ((t, p) ∷ e ∷ es) ((e.0, p) ∷ es) (e ∷ put test_cmp t p es))
put_at t p e es Less this first all rest = (this, (first, all))
put_at t p e es Equal this first all rest = (this, all)
put_at t p e es Greater this first all rest = (first, rest)

put_plain : (t : TestKey) (p : EndedPart) (es : Entries) → IsPlainPart p → ArePlainEntries es → ArePlainEntries (put test_cmp t p es)
put_plain t p [] this all = (this, tt)
put_plain t p (e ∷ es) this all = put_at t p e es (test_cmp t e.0) this all.0 all.1 (put_plain t p es this all.1)

no_entries : ◌≡◌ {A = Entries} (fin.entries (fin.empty {X = EndedPart} {R = test_cmp})) []
no_entries = none_of_length (fin.entries (fin.empty {X = EndedPart} {R = test_cmp})) (sym (len-entries (fin.empty {X = EndedPart} {R = test_cmp})) ∙ len-empty test_cmp EndedPart)

table_plain : (f : TestKey → EndedPart) → ((t : TestKey) → IsPlainId t.id → IsPlainPart (f t)) → (tests : List TestKey) → ArePlainKeys tests → ArePlainEntries (fin.entries (table {R = test_cmp} f tests))
table_plain f each [] all = subst ArePlainEntries (sym no_entries) tt
table_plain f each (t ∷ tests) all = subst ArePlainEntries (sym (entries-insert tests_total (table f tests) t (f t))) (put_plain t (f t) (fin.entries (table f tests)) (each t all.0) (table_plain f each tests all.1))

values_plain : (es : Entries) → ArePlainEntries es → ArePlainParts (map (λ e. e.1) es)
values_plain [] all = tt
values_plain (e ∷ es) all = (all.0, values_plain es all.1)

open_plain : (es : List Event) → ArePlainEvents es → ArePlainParts (open_parts es)
open_plain es all =
    let part_at = λ (t : TestKey). part_of_open t (started_of (last_part (events_of_test t es))) in
    values_plain (fin.entries (table {R = test_cmp} part_at (open_tests es)))
    (table_plain part_at (λ t id. record { id = id; tags = plain_tags (last_part (events_of_test t es)) (plain_part (events_of_test t es) (plain_filtered (λ e. speaks_of t (test_of e)) es all)) }) (open_tests es)
    (keys_kept (is_open es) (filter_map test_of es) (keys_of es all)))

-- ---- the text

one_text : (o : Option EndedPart) (parts : List EndedPart) → completed_text 10 o ++ parts_text (last_byte_behind 10 (completed_text 10 o)) parts ≡ parts_text 10 (option_to_list o ++ parts)
one_text None parts = refl
one_text (Some p) parts = refl

one_ends : (o : Option EndedPart) → last_byte_behind 10 (completed_text 10 o) ≡ 10
one_ends None = refl
one_ends (Some p) = part_ends p

abbrev notes_of : List Event → List Note
notes_of es = map note.Event es

so_far_is : (seen es : List Event) → ArePlainEvents es → text_behind 10 seen (notes_of es) ≡ parts_text 10 (completed_parts seen es)
so_far_is seen [] all = refl
so_far_is seen (e ∷ es) all =
    let o = completed_part seen e in
    let this : event_text 10 seen e (test_of e) ≡ completed_text 10 o = sym (of_test 10 seen e all.0.id o all.0.has_id refl) in
    (λ i. this i ++ text_behind (last_byte_behind 10 (this i)) (seen ++ e ∷ []) (notes_of es))
    ∙ ap (λ b. completed_text 10 o ++ text_behind b (seen ++ e ∷ []) (notes_of es)) (one_ends o)
    ∙ ap (λ (l : List ℕ). completed_text 10 o ++ l) (so_far_is (seen ++ e ∷ []) es all.1)
    ∙ ap (λ b. completed_text 10 o ++ parts_text b (completed_parts (seen ++ e ∷ []) es)) (sym (one_ends o))
    ∙ one_text o (completed_parts (seen ++ e ∷ []) es)

parts_end : (parts : List EndedPart) → last_byte_behind 10 (parts_text 10 parts) ≡ 10
parts_end [] = refl
parts_end (p ∷ parts) =
    last_then 10 (ended_part_text 10 p) (parts_text (last_byte_behind 10 (ended_part_text 10 p)) parts)
    ∙ ap (λ b. last_byte_behind b (parts_text b parts)) (part_ends p) ∙ parts_end parts

both_texts : (before : ℕ) (xs ys : List EndedPart) → parts_text before xs ++ parts_text (last_byte_behind before (parts_text before xs)) ys ≡ parts_text before (xs ++ ys)
both_texts before [] ys = refl
both_texts before (x ∷ xs) ys =
    let this = ended_part_text before x in
    let rest = parts_text (last_byte_behind before this) xs in
    append_assoc this rest (parts_text (last_byte_behind before (this ++ rest)) ys)
    ∙ ap (λ b. this ++ (rest ++ parts_text b ys)) (last_then before this rest)
    ∙ ap (λ (l : List ℕ). this ++ l) (both_texts (last_byte_behind before this) xs ys)

events_are : (seen es : List Event) → events_behind_notes seen (notes_of es) ≡ seen ++ es
events_are seen [] = sym (append-nil seen)
events_are seen (e ∷ es) = events_are (seen ++ e ∷ []) es ∙ append_assoc seen (e ∷ []) es

abbrev all_parts : List Event → List EndedPart
all_parts es = completed_parts [] es ++ open_parts es

text_is : (es : List Event) → ArePlainEvents es → v1_text (notes_of es) ≡ parts_text 10 (all_parts es)
text_is es all =
    let first = parts_text 10 (completed_parts [] es) in
    let so_far : text_so_far (notes_of es) ≡ first = so_far_is [] es all in
    let last : last_byte (notes_of es) ≡ 10 = ap (last_byte_behind 10) so_far ∙ parts_end (completed_parts [] es) in
    (λ i. so_far i ++ parts_text (last i) (open_parts (events_are [] es i)))
    ∙ ap (λ b. first ++ parts_text b (open_parts es)) (sym (parts_end (completed_parts [] es)))
    ∙ both_texts 10 (completed_parts [] es) (open_parts es)

-- ---- what is said

row_told : (test : Option TestKey) (how : Option Ended) (seen : List Event) (e : Event) → option_map row_of_part (part_completing test how seen e) ≡ row_completing test how seen e
row_told None how seen e = refl
row_told (Some test) None seen e = refl
row_told (Some test) (Some how) seen e = refl

listed : {A B : Type 0} (f : A → B) (o : Option A) → option_to_list (option_map f o) ≡ map f (option_to_list o)
listed f None = refl
listed f (Some x) = refl

completed_rows_are : (seen es : List Event) → completed_behind seen es ≡ map row_of_part (completed_parts seen es)
completed_rows_are seen [] = refl
completed_rows_are seen (e ∷ es) =
    let this : option_to_list (completed_row seen e) ≡ map row_of_part (option_to_list (completed_part seen e)) =
    ap option_to_list (sym (row_told (test_of e) (ended_by e.status) seen e)) ∙ listed row_of_part (completed_part seen e) in
    (λ i. this i ++ completed_rows_are (seen ++ e ∷ []) es i) ∙ sym (map-append row_of_part (option_to_list (completed_part seen e)) (completed_parts (seen ++ e ∷ []) es))

no_time : (begun : Option ℕ) → elapsed begun None ≡ None
no_time None = refl
no_time (Some n) = refl

values_are : (es : Entries) → map (λ (e : TestKey × Row). e.1) (map (λ (e : TestKey × EndedPart). (e.0, row_of_part e.1)) es) ≡ map row_of_part (map (λ (e : TestKey × EndedPart). e.1) es)
values_are [] = refl
values_are (e ∷ es) = ap (λ l. row_of_part e.1 ∷ l) (values_are es)

open_rows_are : (es : List Event) → open_rows es ≡ map row_of_part (open_parts es)
open_rows_are es =
    let part = λ (t : TestKey). last_part (events_of_test t es) in
    let rows : open_rows es ≡ fin.values (table {R = test_cmp} (λ t. row_of_part (part_of_open t (started_of (part t)))) (open_tests es)) =
    λ i. fin.values (table {R = test_cmp} (λ t. record {
      id = t.id;
      route = t.route;
      ended = ended.Open;
      tags = in_byte_order (last_tags (part t));
      nanos = sym (no_time (start_of (part t))) i;
      text = text_of (part t);
      reason = [];
    }) (open_tests es)) in
    rows ∙ ap (map (λ (e : TestKey × Row). e.1)) (table_with exact_tests (λ t p. row_of_part p) tests_total (λ t. part_of_open t (started_of (part t))) (open_tests es))
    ∙ values_are (fin.entries (table {R = test_cmp} (λ t. part_of_open t (started_of (part t))) (open_tests es)))

said_of_parts : (parts : List EndedPart) → sayings_of parts ≡ map said_again (filter row_is_written (map row_of_part parts))
said_of_parts [] = refl
said_of_parts (p ∷ parts) = elim (is_written p.ended) as (λ b. map saying_of (cond b (p ∷ filter part_is_written parts) (filter part_is_written parts)) ≡ map said_again (cond b (row_of_part p ∷ filter row_is_written (map row_of_part parts)) (filter row_is_written (map row_of_part parts)))) [ true ↦ ap (λ l. saying_of p ∷ l) (said_of_parts parts) | false ↦ said_of_parts parts ]

sayings_are : (es : List Event) → sayings_of (all_parts es) ≡ map said_again (written_rows es)
sayings_are es =
    said_of_parts (all_parts es)
    ∙ ap (λ rows. map said_again (filter row_is_written rows))
    (map-append row_of_part (completed_parts [] es) (open_parts es) ∙ (λ i. sym (completed_rows_are [] es) i ++ sym (open_rows_are es) i))

-- ---- the law

pub says_again : (es : List Event) → All IsPlainEvent es → SaysAgain es
says_again es all =
    let plain = each_plain es all in
    let parts = all_parts es in
    let (given, now, leads, told) = leads_parts None parts (parts_then (completed_parts [] es) (open_parts es) (completed_plain [] es tt plain) (open_plain es plain)) in
    let text = parts_text 10 parts in
    let lines : lines_of text ≡ leads.lines = ap lines_of (sym (append-nil text)) ∙ leads.cut [] ∙ append-nil leads.lines in
    let events : v1_events (lines_of text) ≡ given =
    ap v1_events lines ∙ (λ i. leads.runs.events i ++ events_at_end (leads.runs.state i).open_test) ∙ append-nil given in
    ap (λ l. map said_of (rows_of (v1_events (lines_of l)))) (text_is es plain) ∙ ap (λ l. map said_of (rows_of l)) events ∙ rows_told (sayings_of parts) given told ∙ sayings_are es
