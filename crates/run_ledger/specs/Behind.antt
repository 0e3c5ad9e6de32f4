-- One run more behind others, by its events.
use Rattle.std.specs.Prelude.{Bool, List, [], ◌∷◌, ◌++◌}
use Rattle.packet_codec.specs.declared.event.Event.{Event}
use Rattle.outcome_fold.specs.Rows.{rows_of}
use Rattle.run_ledger.specs.Ledger.{RunRows}

-- the rows of the runs, and of one run more that has these events
abbrev pub with_events : List RunRows → (partial : Bool) → List Event → List RunRows
with_events entries partial events = entries ++ record { partial = partial; rows = rows_of events } ∷ []
