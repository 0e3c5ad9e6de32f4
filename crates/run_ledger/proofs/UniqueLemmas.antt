-- A run has one list of rows.
use Rattle.std.proofs.Common.{◌≡◌, ℕ, List, [], ◌∷◌, refl, sym, ap, ◌∙◌}
use Rattle.std.specs.List.{All}
use Rattle.std.proofs.lemmas.List.Elements.{All-head, All-tail}
use Rattle.packet_codec.specs.declared.event.Event.{Event}
use Rattle.packet_codec.specs.Grammar.{AreBytes}
use Rattle.stream_reader.specs.Notes.{HasEvents, notes_of, events_of}
use Rattle.stream_reader.proofs.CutLemmas.{one_cut}
use Rattle.outcome_fold.specs.declared.row.Row.{Row}
use Rattle.outcome_fold.specs.Rows.{rows_of}
use Rattle.run_shelf.specs.Repository.{Run}
use Rattle.run_ledger.specs.Reading.{AreRowsOf}
use Rattle.run_ledger.specs.Ledger.{RunRows, IsRunRows, AreRunRows}

one_events : (bytes : List ℕ) (some others : List Event) → AreBytes bytes → HasEvents bytes some → HasEvents bytes others → some ≡ others
one_events bytes some others are (notes, has, some_are) (notes', has', others_are) =
    some_are ∙ ap events_of (has.made ∙ ap notes_of (one_cut has.pieces has'.pieces bytes are has.cut has'.cut) ∙ sym has'.made) ∙ sym others_are

pub one_list : (bytes : List ℕ) (rows others : List Row) → AreBytes bytes → AreRowsOf bytes rows → AreRowsOf bytes others → others ≡ rows
one_list bytes rows others are has also = also.folded ∙ ap rows_of (one_events bytes also.events has.events are also.told has.told) ∙ sym has.folded

one_entry : (run : Run) (entry other : RunRows) → AreBytes run.bytes → IsRunRows run entry → IsRunRows run other → other ≡ entry
one_entry run entry other are has also =
    let kinds : other.partial ≡ entry.partial = also.kind ∙ sym has.kind in
    let rows : other.rows ≡ entry.rows = one_list run.bytes entry.rows other.rows are has.rows also.rows in
    λ i. record { partial = kinds i; rows = rows i }

pub one_each : (runs : List Run) (entries others : List RunRows) → All (λ run. AreBytes run.bytes) runs → AreRunRows runs entries → AreRunRows runs others → others ≡ entries
one_each [] [] [] bytes are also = refl
one_each [] [] (o ∷ others) bytes are also = absurd also
one_each [] (e ∷ entries) others bytes are also = absurd are
one_each (run ∷ runs) [] others bytes are also = absurd are
one_each (run ∷ runs) (e ∷ entries) [] bytes are also = absurd also
one_each (run ∷ runs) (e ∷ entries) (o ∷ others) bytes are also =
    let first : o ≡ e = one_entry run e o (All-head (λ (run : Run). AreBytes run.bytes) run runs bytes) are.0 also.0 in
    let rest : others ≡ entries = one_each runs entries others (All-tail (λ (run : Run). AreBytes run.bytes) run runs bytes) are.1 also.1 in
    λ i. first i ∷ rest i
