-- The lines of rows, one row more.
use Rattle.std.proofs.Common.{◌≡◌, ℕ, List, [], ◌∷◌, ◌++◌, ap, sym, ◌∙◌, append_assoc}
use Rattle.outcome_fold.specs.declared.row.Row.{Row}
use Rattle.tap_bridge.specs.Texts.{tap_text_at, tap_text_behind}
use Rattle.tap_bridge.proofs.TextLemmas.{behind_push}

pub text_more : (before rows all : List Row) (row : Row) (old mid new : List ℕ) → all ≡ rows ++ row ∷ [] → mid ≡ old ++ tap_text_behind before rows → new ≡ mid ++ tap_text_at (before ++ rows) row → new ≡ old ++ tap_text_behind before all
text_more before rows all row old mid new is so_far grown =
    grown ∙ ap (λ (l : List ℕ). l ++ tap_text_at (before ++ rows) row) so_far ∙ append_assoc old (tap_text_behind before rows) (tap_text_at (before ++ rows) row)
    ∙ ap (λ (l : List ℕ). old ++ l) (sym (behind_push before rows row) ∙ ap (tap_text_behind before) (sym is))
