-- The text of a whole stream as lines of the Test Anything Protocol.
use Rattle.std.proofs.Common.{◌≡◌, ℕ, List, [], ◌∷◌, ◌++◌, Option, None, Some, refl, sym, ap, ◌∙◌, append_assoc, append-nil}
use Rattle.std.specs.List.{flat_map}
use Rattle.std.specs.Option.{option_to_list}
use Rattle.packet_codec.specs.declared.event.Event.{Event}
use Rattle.stream_reader.specs.declared.note.Note.{Note}
use Rattle.stream_reader.specs.declared.note.Note.TheVariants as note
use Rattle.outcome_fold.specs.declared.row.Row.{Row}
use Rattle.outcome_fold.specs.Rows.{completed_row, completed_behind, completed_rows, open_rows}
use Rattle.outcome_fold.proofs.OutcomeLemmas.{completed_push}
use Rattle.tap_bridge.specs.Texts.{tap_text_at, tap_text_behind, tap_text_so_far, plan_line, lines_in, tap_text}
use Rattle.filter_cli.specs.Script.{given_behind, given_by}
use Rattle.filter_cli.specs.Events.{events_among}
use Rattle.filter_cli.specs.TapRows.{tap_rows, tap_plan}
use Rattle.filter_cli.proofs.EventLemmas.{event_more, foreign_more}

-- the line of a row, where there is one, comes before those of the rows behind it
row_first : (before : List Row) (row : Option Row) (rows : List Row) → flat_map (tap_text_at before) (option_to_list row) ++ tap_text_behind (before ++ option_to_list row) rows ≡ tap_text_behind before (option_to_list row ++ rows)
row_first before None rows = ap (λ (l : List Row). tap_text_behind l rows) (append-nil before)
row_first before (Some row) rows = ap (λ (l : List ℕ). l ++ tap_text_behind (before ++ row ∷ []) rows) (append-nil (tap_text_at before row))

-- the lines of rows, and of those behind them
text_then : (before rows others : List Row) → tap_text_behind before (rows ++ others) ≡ tap_text_behind before rows ++ tap_text_behind (before ++ rows) others
text_then before [] others = ap (λ (l : List Row). tap_text_behind l others) (sym (append-nil before))
text_then before (row ∷ rows) others =
    ap (λ (l : List ℕ). tap_text_at before row ++ l) (text_then (before ++ row ∷ []) rows others
    ∙ ap (λ (l : List Row). tap_text_behind (before ++ row ∷ []) rows ++ tap_text_behind l others) (append_assoc before (row ∷ []) rows))
    ∙ sym (append_assoc (tap_text_at before row) (tap_text_behind (before ++ row ∷ []) rows) (tap_text_behind (before ++ row ∷ rows) others))

-- notes give the lines of the rows that their events complete
lines_behind : (before notes : List Note) → given_behind tap_plan before notes ≡ tap_text_behind (completed_rows (events_among before)) (completed_behind (events_among before) (events_among notes))
lines_behind before [] = refl
lines_behind before (note.Foreign bytes ∷ notes) =
    lines_behind (before ++ note.Foreign bytes ∷ []) notes
    ∙ ap (λ (seen : List Event). tap_text_behind (completed_rows seen) (completed_behind seen (events_among notes))) (foreign_more before bytes)
lines_behind before (note.Event e ∷ notes) =
    let seen = events_among before in
    let rest = completed_behind (seen ++ e ∷ []) (events_among notes) in
    let line = flat_map (tap_text_at (completed_rows seen)) (option_to_list (completed_row seen e)) in
    ap (λ (l : List ℕ). line ++ l) (lines_behind (before ++ note.Event e ∷ []) notes
    ∙ ap (λ (l : List Event). tap_text_behind (completed_rows l) (completed_behind l (events_among notes))) (event_more before e)
    ∙ ap (λ (l : List Row). tap_text_behind l rest) (completed_push seen e))
    ∙ row_first (completed_rows seen) (completed_row seen e) rest

pub lines_whole : (notes : List Note) → given_by tap_plan notes ++ tap_plan.at_end notes ≡ tap_text (tap_rows (events_among notes))
lines_whole notes =
    let done = completed_rows (events_among notes) in
    let left = open_rows (events_among notes) in
    let plan = plan_line (lines_in (tap_rows (events_among notes))) in
    ap (λ (l : List ℕ). l ++ (tap_text_behind done left ++ plan)) (lines_behind [] notes)
    ∙ sym (append_assoc (tap_text_so_far done) (tap_text_behind done left) plan)
    ∙ ap (λ (l : List ℕ). l ++ plan) (sym (text_then [] done left))
