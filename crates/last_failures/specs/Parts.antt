-- The parts of tests that failed, and their packets (docs/FORMATS.md, "What the runs say together").
use Rattle.std.specs.Prelude.{ℕ, Bool, ◌&&◌, Option, None, Some, List, [], ◌∷◌, ◌++◌, if◌then◌else◌}
use Rattle.std.specs.Option.{option_map, unwrap_or}
use Rattle.packet_codec.specs.Canonical.{packets_of}
use Rattle.packet_codec.specs.declared.event.Event.{Event}
use Rattle.outcome_fold.specs.declared.row.Row.{Row}
use Rattle.outcome_fold.specs.declared.test_key.TestKey.{TestKey}
use Rattle.outcome_fold.specs.Parts.{test_of, speaks_of, events_of_test, ended_by, last_part}
use Rattle.outcome_fold.specs.Rows.{part_with}
use Rattle.outcome_fold.specs.Folded.{is_failing_end}
use Rattle.outcome_fold.specs.TestPackets.{test_of_row}

-- the event completes a part of the test, by which the test fails
abbrev pub completes_failing : TestKey → Event → Bool
completes_failing test e = speaks_of test (test_of e) && is_failing_end (ended_by e.status)

-- The last part of the test that an event completes by which the test fails, where `seen` came before these events, and `kept`
-- is the last such part of what was seen.
abbrev pub failed_behind : TestKey → (kept : Option (List Event)) → (seen : List Event) → List Event → Option (List Event)
failed_behind test kept seen [] = kept
failed_behind test kept seen (e ∷ es) = failed_behind test (if completes_failing test e then Some (part_with test seen e) else kept) (seen ++ e ∷ []) es

-- the last part of the test that one of all these events completes, and by which the test fails
abbrev pub failed_part : TestKey → List Event → Option (List Event)
failed_part test es = failed_behind test None [] es

-- a part, where it has an event
abbrev pub some_part : List Event → Option (List Event)
some_part [] = None
some_part (e ∷ es) = Some (e ∷ es)

-- the part of the test that is not completed, where there is one
abbrev pub open_part : TestKey → List Event → Option (List Event)
open_part test es = some_part (last_part (events_of_test test es))

-- the first one, where it is there, or else the second
abbrev pub or_else : {A : Type 0} → Option A → Option A → Option A
or_else None second = second
or_else (Some first) second = Some first

-- The last part of the test that failed: the one that is not completed, where there is one, since no other follows it.
abbrev pub last_failed_part : TestKey → List Event → Option (List Event)
last_failed_part test es = or_else (open_part test es) (failed_part test es)

-- the same of a part that may not be there
abbrev pub part_packets : Option (List Event) → Option (List ℕ)
part_packets part = option_map packets_of part

-- the packets of the last part that failed of the row's test
abbrev pub failure_packets : List Event → Row → List ℕ
failure_packets es row = unwrap_or (part_packets (last_failed_part (test_of_row row) es)) []
