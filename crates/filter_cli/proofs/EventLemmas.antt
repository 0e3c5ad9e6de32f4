-- The events among notes, one note more.
use Rattle.std.proofs.Common.{◌≡◌, ℕ, Bool, ◌||◌, List, [], ◌∷◌, ◌++◌, Option, sym, ap, ◌∙◌, append-nil}
use Rattle.std.specs.List.{list_any}
use Rattle.std.specs.Option.{option_to_list}
use Rattle.std.proofs.lemmas.Grind.{flat_map-append}
use Rattle.std.proofs.lemmas.List.Folds.{list_any-append}
use Rattle.packet_codec.specs.declared.event.Event.{Event}
use Rattle.stream_reader.specs.declared.note.Note.{Note}
use Rattle.stream_reader.specs.declared.note.Note.TheVariants as note
use Rattle.outcome_fold.specs.declared.row.Row.{Row}
use Rattle.outcome_fold.specs.Rows.{completed_row, completed_rows}
use Rattle.outcome_fold.specs.Answers.{row_fails}
use Rattle.outcome_fold.proofs.OutcomeLemmas.{completed_push}
use Rattle.filter_cli.specs.Events.{event_in, events_among}

pub event_more : (notes : List Note) (e : Event) → events_among (notes ++ note.Event e ∷ []) ≡ events_among notes ++ e ∷ []
event_more notes e = flat_map-append event_in notes (note.Event e ∷ [])

pub foreign_more : (notes : List Note) (bytes : List ℕ) → events_among (notes ++ note.Foreign bytes ∷ []) ≡ events_among notes
foreign_more notes bytes = flat_map-append event_in notes (note.Foreign bytes ∷ []) ∙ append-nil (events_among notes)

pub failed_more : (seen : List Event) (e : Event) (row : Option Row) (failed : Bool) → failed ≡ list_any row_fails (completed_rows seen) → row ≡ completed_row seen e → (failed || list_any row_fails (option_to_list row)) ≡ list_any row_fails (completed_rows (seen ++ e ∷ []))
failed_more seen e row failed was is =
    ap (λ b. b || list_any row_fails (option_to_list row)) was
    ∙ ap (λ r. list_any row_fails (completed_rows seen) || list_any row_fails (option_to_list r)) is
    ∙ sym (list_any-append row_fails (completed_rows seen) (option_to_list (completed_row seen e)))
    ∙ ap (list_any row_fails) (sym (completed_push seen e))
