-- Each list of bytes has rows.
use Rattle.std.proofs.Common.{ℕ, List, [], ◌∷◌, refl}
use Rattle.stream_reader.specs.Notes.{events_of}
use Rattle.stream_reader.proofs.ExistLemmas.{some_notes}
use Rattle.outcome_fold.specs.declared.row.Row.{Row}
use Rattle.outcome_fold.specs.Rows.{rows_of}
use Rattle.run_shelf.specs.Repository.{Run}
use Rattle.run_ledger.specs.Reading.{AreRowsOf}
use Rattle.run_ledger.specs.Ledger.{RunRows, AreRunRows}

pub some_rows : (bytes : List ℕ) → (rows : List Row) × AreRowsOf bytes rows
some_rows bytes =
    let notes = some_notes bytes in
    (rows_of (events_of notes.0), record { events = events_of notes.0; told = (notes.0, notes.1, refl); folded = refl })

pub some_each : (runs : List Run) → (entries : List RunRows) × AreRunRows runs entries
some_each [] = ([], tt)
some_each (run ∷ runs) =
    let one = some_rows run.bytes in
    let others = some_each runs in
    (record { partial = run.partial; rows = one.0 } ∷ others.0, (record { kind = refl; rows = one.1 }, others.1))
