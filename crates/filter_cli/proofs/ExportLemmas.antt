-- The records of tests, event by event.
use Rattle.std.proofs.Common.{◌≡◌, ℕ, Bool, true, false, Option, None, Some, List, [], ◌∷◌, ◌++◌, refl, sym, ap, ◌∙◌, append-nil, if◌then◌else◌}
use Rattle.std.specs.List.{flat_map}
use Rattle.std.specs.Option.{option_map}
use Rattle.packet_codec.specs.declared.event.Event.{Event}
use Rattle.stream_reader.specs.declared.note.Note.{Note}
use Rattle.stream_reader.specs.declared.note.Note.TheVariants as note
use Rattle.outcome_fold.specs.declared.row.Row.{Row}
use Rattle.outcome_fold.specs.declared.test_key.TestKey.{TestKey}
use Rattle.outcome_fold.specs.Parts.{test_of, start_of}
use Rattle.outcome_fold.specs.Rows.{completed_row, part_with}
use Rattle.event_sift.specs.Released.{released, released_with}
use Rattle.sub_export.specs.Records.{csv_row_of, row_if, record_with, status_word, end_by, stop_by, last_of_part, csv_head_text, csv_text, kept_part_with, kept_part_at, kept_parts_behind, kept_parts_so_far, kept_open_parts}
use Rattle.std.proofs.lemmas.Grind.{flat_map-append}
use Rattle.event_sift.specs.declared.rules.Rules.{Rules}
use Rattle.event_sift.specs.Keeping.{keeps}
use Rattle.filter_cli.specs.Script.{given_behind, given_by}
use Rattle.filter_cli.specs.Exporting.{csv_plan, IsCsvFiltered}
use Rattle.filter_cli.proofs.EventLemmas.{event_more, foreign_more}
use Rattle.filter_cli.specs.Events.{events_among}

no_id : (id route word : Option (List ℕ)) (start stop : Option ℕ) → ◌≡◌ {A = Option TestKey} None (option_map (λ id. record { route = route; id = id }) id) → row_if (record_with id word start stop) ≡ []
no_id None route word start stop none = refl
no_id (Some id) route word start stop none = cc none

-- an event that speaks of no test has no record
no_record : (e : Event) → None ≡ test_of e → csv_row_of (e ∷ []) ≡ []
no_record e none = no_id e.id e.route (status_word (end_by (last_of_part (e ∷ [])))) (start_of (e ∷ [])) (stop_by (last_of_part (e ∷ []))) none

if_kept_row : (kept : Bool) (part : List Event) → csv_row_of (if kept then part else []) ≡ flat_map csv_row_of (if kept then part ∷ [] else [])
if_kept_row true part = sym (append-nil (csv_row_of part))
if_kept_row false part = refl

with_test : (kept : Row → Bool) (test : Option TestKey) (row : Option Row) (seen : List Event) (e : Event) → test ≡ test_of e → csv_row_of (released_with kept test row seen e) ≡ flat_map csv_row_of (kept_part_with kept test row seen e)
with_test kept None row seen e is = no_record e is
with_test kept (Some test) None seen e is = refl
with_test kept (Some test) (Some row) seen e is = if_kept_row (kept row) (part_with test seen e)

-- the record of what is released at an event
row_released : (kept : Row → Bool) (seen : List Event) (e : Event) → csv_row_of (released kept seen e) ≡ flat_map csv_row_of (kept_part_at kept seen e)
row_released kept seen e = with_test kept (test_of e) (completed_row seen e) seen e refl

pub row_taken : (kept : Row → Bool) (seen : List Event) (e event : Event) (old new : List ℕ) (part lent : List Event) → new ≡ old ++ csv_row_of lent → lent ≡ part → part ≡ released kept seen e → e ≡ event → new ≡ old ++ flat_map csv_row_of (kept_part_at kept seen event)
row_taken kept seen e event old new part lent is same gives one =
    is ∙ ap (λ (l : List ℕ). old ++ l) (ap csv_row_of (same ∙ gives) ∙ row_released kept seen e ∙ ap (λ (x : Event). flat_map csv_row_of (kept_part_at kept seen x)) one)

-- ---- whole streams

records_behind : (kept : Row → Bool) (before notes : List Note) → given_behind (csv_plan kept) before notes ≡ flat_map csv_row_of (kept_parts_behind kept (events_among before) (events_among notes))
records_behind kept before [] = refl
records_behind kept before (note.Foreign bytes ∷ notes) =
    records_behind kept (before ++ note.Foreign bytes ∷ []) notes
    ∙ ap (λ (seen : List Event). flat_map csv_row_of (kept_parts_behind kept seen (events_among notes))) (foreign_more before bytes)
records_behind kept before (note.Event e ∷ notes) =
    let now = kept_part_at kept (events_among before) e in
    ap (λ (l : List ℕ). flat_map csv_row_of now ++ l) (records_behind kept (before ++ note.Event e ∷ []) notes
    ∙ ap (λ (seen : List Event). flat_map csv_row_of (kept_parts_behind kept seen (events_among notes))) (event_more before e))
    ∙ sym (flat_map-append csv_row_of now (kept_parts_behind kept (events_among before ++ e ∷ []) (events_among notes)))

pub records_whole : (kept : Row → Bool) (notes : List Note) → csv_head_text ++ (given_by (csv_plan kept) notes ++ (csv_plan kept).at_end notes) ≡ csv_text kept (events_among notes)
records_whole kept notes =
    let last = kept_open_parts kept (events_among notes) in
    ap (λ (l : List ℕ). csv_head_text ++ l) (ap (λ (l : List ℕ). l ++ flat_map csv_row_of last) (records_behind kept [] notes)
    ∙ sym (flat_map-append csv_row_of (kept_parts_so_far kept (events_among notes)) last))

pub stream_records : (rules : Rules) (bytes text : List ℕ) (status : ℕ) (w : IsCsvFiltered rules bytes text status) → text ≡ csv_text (keeps rules) (events_among w.holds.notes)
stream_records rules bytes text status w =
    w.grown ∙ ap (λ (l : List ℕ). csv_head_text ++ l) w.holds.made ∙ records_whole (keeps rules) w.holds.notes
