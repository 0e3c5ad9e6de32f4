-- The lines of rows, one row more.
use Rattle.std.proofs.Common.{◌≡◌, List, [], ◌∷◌, ◌++◌, sym, ◌∙◌, ap, append_assoc}
use Rattle.std.proofs.lemmas.List.{append-nil}
use Rattle.outcome_fold.specs.declared.row.Row.{Row}
use Rattle.tap_bridge.specs.Texts.{tap_text_at, tap_text_behind, tap_text_so_far}

-- the same behind other rows
pub behind_push : (before rows : List Row) (row : Row) → tap_text_behind before (rows ++ row ∷ []) ≡ tap_text_behind before rows ++ tap_text_at (before ++ rows) row
behind_push before [] row = append-nil (tap_text_at before row) ∙ ap (λ rows. tap_text_at rows row) (sym (append-nil before))
behind_push before (first ∷ rows) row =
    ap (λ text. tap_text_at before first ++ text) (behind_push (before ++ first ∷ []) rows row ∙ ap (λ all. tap_text_behind (before ++ first ∷ []) rows ++ tap_text_at all row) (append_assoc before (first ∷ []) rows))
    ∙ sym (append_assoc (tap_text_at before first) (tap_text_behind (before ++ first ∷ []) rows) (tap_text_at (before ++ first ∷ rows) row))

-- the lines of the rows, one row more
pub so_far_push : (rows : List Row) (row : Row) → tap_text_so_far (rows ++ row ∷ []) ≡ tap_text_so_far rows ++ tap_text_at rows row
so_far_push rows row = behind_push [] rows row
