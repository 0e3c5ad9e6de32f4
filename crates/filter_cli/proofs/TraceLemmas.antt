-- The lines of open tests, and the totals.
use Rattle.std.proofs.Common.{◌≡◌, ℕ, Bool, if◌then◌else◌, List, [], ◌++◌, length, ap, ◌∙◌, append_assoc}
use Rattle.std.specs.List.{filter}
use Rattle.std.proofs.lemmas.List.{length-append}
use Rattle.std.proofs.lemmas.List.Elements.{filter-append}
use Rattle.outcome_fold.specs.Answers.{is_run}
use Rattle.outcome_fold.specs.declared.row.Row.{Row}
use Rattle.live_text.specs.Live.{live_rows, live_end, end_behind_rows, printed_behind}
use Rattle.live_text.specs.Totals.{totals_text}
use Rattle.live_text.specs.declared.live.Live.{Live}

pub trace_end : (kind : Live) (before rows left : List Row) (totals : Bool) (old lines ended all : List ℕ)
    → rows ≡ left
    → lines ≡ old ++ live_rows kind (length (filter is_run before)) rows
    → ended ≡ lines ++ end_behind_rows kind (length (filter is_run (before ++ rows)))
    → all ≡ ended ++ (if totals then totals_text (before ++ rows) else [])
    → all ≡ old ++ (live_end kind (length (filter is_run before)) left ++ (if totals then totals_text (before ++ left) else []))
trace_end kind before rows left totals old lines ended all is one two three =
    let n = length (filter is_run before) in
    let counted : length (filter is_run (before ++ rows)) ≡ printed_behind n rows = ap length (filter-append is_run before rows) ∙ length-append (filter is_run before) (filter is_run rows) in
    three
    ∙ ap (λ (l : List ℕ). l ++ (if totals then totals_text (before ++ rows) else []))
    (two ∙ ap (λ (l : List ℕ). l ++ end_behind_rows kind (length (filter is_run (before ++ rows)))) one
    ∙ ap (λ (m : ℕ). (old ++ live_rows kind n rows) ++ end_behind_rows kind m) counted
    ∙ append_assoc old (live_rows kind n rows) (end_behind_rows kind (printed_behind n rows)))
    ∙ append_assoc old (live_end kind n rows) (if totals then totals_text (before ++ rows) else [])
    ∙ ap (λ (r : List Row). old ++ (live_end kind n r ++ (if totals then totals_text (before ++ r) else []))) is
