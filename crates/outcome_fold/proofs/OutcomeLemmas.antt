-- The completed rows, event by event.
use Rattle.std.proofs.Common.{◌≡◌, List, [], ◌∷◌, ◌++◌, Some, None, sym, ◌∙◌, ap, append_assoc}
use Rattle.std.specs.Option.{option_to_list}
use Rattle.packet_codec.specs.declared.event.Event.{Event}
use Rattle.outcome_fold.specs.declared.row.Row.{Row}
use Rattle.outcome_fold.specs.Rows.{completed_row, completed_behind, completed_rows}
use Rattle.outcome_fold.proofs.FoldLemmas.{append_none}

behind_push : (seen es : List Event) (e : Event) → completed_behind seen (es ++ e ∷ []) ≡ completed_behind seen es ++ option_to_list (completed_row (seen ++ es) e)
behind_push seen [] e = append_none (option_to_list (completed_row seen e)) ∙ ap (λ s. option_to_list (completed_row s e)) (sym (append_none seen))
behind_push seen (x ∷ es) e =
    ap (λ l. option_to_list (completed_row seen x) ++ l) (behind_push (seen ++ x ∷ []) es e ∙ ap (λ s. completed_behind (seen ++ x ∷ []) es ++ option_to_list (completed_row s e)) (append_assoc seen (x ∷ []) es))
    ∙ sym (append_assoc (option_to_list (completed_row seen x)) (completed_behind (seen ++ x ∷ []) es) (option_to_list (completed_row (seen ++ x ∷ es) e)))

-- the row that an event completes is the last one
pub completed_push : (seen : List Event) (e : Event) → completed_rows (seen ++ e ∷ []) ≡ completed_rows seen ++ option_to_list (completed_row seen e)
completed_push seen e = behind_push [] seen e

pub completed_none : (seen : List Event) (e : Event) (rows : List Row) → rows ≡ completed_rows seen → None ≡ completed_row seen e → rows ≡ completed_rows (seen ++ e ∷ [])
completed_none seen e rows is none = is ∙ sym (append_none (completed_rows seen)) ∙ ap (λ o. completed_rows seen ++ option_to_list o) none ∙ sym (completed_push seen e)

pub completed_some : (seen : List Event) (e : Event) (rows : List Row) (row : Row) → rows ≡ completed_rows seen → Some row ≡ completed_row seen e → rows ++ row ∷ [] ≡ completed_rows (seen ++ e ∷ [])
completed_some seen e rows row is some = ap (λ l. l ++ row ∷ []) is ∙ ap (λ o. completed_rows seen ++ option_to_list o) some ∙ sym (completed_push seen e)
