-- A run of several lanes behind others.
use Rattle.std.proofs.Common.{◌≡◌, ℕ, ◌≤◌, Bool, List, [], ◌∷◌, ◌++◌, length, refl, sym, ap}
use Rattle.packet_codec.specs.declared.event.Event.{Event}
use Rattle.packet_codec.specs.Lanes.{IsMerge, joined}
use Rattle.stream_reader.specs.Notes.{HasEvents}
use Rattle.outcome_fold.specs.declared.row.Row.{Row}
use Rattle.outcome_fold.specs.Rows.{rows_of}
use Rattle.outcome_fold.proofs.MergedLemmas.{merge_says_same}
use Rattle.edge_io.specs.Disk.{Files}
use Rattle.run_shelf.specs.Repository.{Run, run_of, Shows}
use Rattle.run_ledger.specs.Reading.{AreRowsOf}
use Rattle.run_ledger.specs.Ledger.{RunRows, IsRunRows, AreRunRows, ShowRows}
use Rattle.run_ledger.specs.Behind.{with_events}

pub rows_in_turn : (bytes : List ℕ) (events : List Event) (lists : List (List Event)) → HasEvents bytes events → length lists ≤ 64 → IsMerge events lists → AreRowsOf bytes (rows_of (joined lists))
rows_in_turn bytes events lists told few merge = record { events = events; told = told; folded = sym (merge_says_same events lists few merge).rows }

pub entries_in_turn : (entries : List RunRows) (partial : Bool) (events : List Event) (lists : List (List Event)) → length lists ≤ 64 → IsMerge events lists → with_events entries partial events ≡ with_events entries partial (joined lists)
entries_in_turn entries partial events lists few merge = ap (λ (rows : List Row). entries ++ record { partial = partial; rows = rows } ∷ []) (merge_says_same events lists few merge).rows

one_more : (runs : List Run) (entries : List RunRows) (run : Run) (entry : RunRows) → AreRunRows runs entries → IsRunRows run entry → AreRunRows (runs ++ run ∷ []) (entries ++ entry ∷ [])
one_more [] [] run entry are is = (is, tt)
one_more [] (e ∷ entries) run entry are is = absurd are
one_more (r ∷ runs) [] run entry are is = absurd are
one_more (r ∷ runs) (e ∷ entries) run entry are is = (are.0, one_more runs entries run entry are.1 is)

pub shown_in_turn : (files : Files) (runs : List Run) (entries : List RunRows) (partial : Bool) (bytes : List ℕ) (events : List Event) (lists : List (List Event)) → Shows files (runs ++ run_of partial bytes ∷ []) → AreRunRows runs entries → HasEvents bytes events → length lists ≤ 64 → IsMerge events lists → ShowRows files (with_events entries partial (joined lists))
shown_in_turn files runs entries partial bytes events lists shown are told few merge = record {
  runs = runs ++ run_of partial bytes ∷ [];
  shown = shown;
  are = one_more runs entries (run_of partial bytes) (record { partial = partial; rows = rows_of (joined lists) }) are (record { kind = refl; rows = rows_in_turn bytes events lists told few merge });
}
