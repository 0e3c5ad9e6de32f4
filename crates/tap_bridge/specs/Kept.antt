-- What a reader knows of the lines that it was given.
use Rattle.std.specs.Prelude.{◌≡◌, ℕ, ◌≤◌, Option, Some, None, List, [], ◌∷◌, map, length}
use Rattle.std.specs.Option.{option_map}
use Rattle.packet_codec.specs.declared.event.Event.{Event}
use Rattle.packet_codec.specs.declared.event.FilePart.{FilePart}
use Rattle.packet_codec.specs.declared.status.Status.{Status}
use Rattle.tap_bridge.specs.declared.waiting_test.Waiting.{Waiting as Kept}
use Rattle.tap_bridge.specs.declared.reader.TapReader.{TapReader}
use Rattle.tap_bridge.specs.Ids.{id_from, test_name}
use Rattle.tap_bridge.specs.Events.{Waiting, TapInput, input_of, next_number, planned_tests, waiting, tap_status, comment_of, comment_file, event_with_id}

-- a file that leaves room in a packet for an id
abbrev pub IsShortFile : FilePart → Type 0
IsShortFile file = (length file.name ≤ 16) × (length file.bytes ≤ 65537)

-- what is kept of the waiting test
abbrev pub kept_waiting : Waiting → Kept
kept_waiting w = record {
  id = id_from (test_name w.number w.shown.description);
  status = tap_status w.shown.passed w.shown.directive;
  comment = comment_of w.shown.reason w.comments;
}

-- the event of the test of which this is kept, where one waits
abbrev pub kept_event : Kept → Event
kept_event kept = event_with_id kept.id kept.status (comment_file kept.comment)

-- the event of the test that is held
abbrev pub kept_events : Option Kept → List Event
kept_events None = []
kept_events (Some kept) = kept_event kept ∷ []

-- the reader was given these lines
pub record HasTakenLines (reader : TapReader) (lines : List TapInput) : Type 0 where
  pub next : reader.next ≡ next_number lines
  pub tests : reader.tests ≡ planned_tests lines
  pub waits : reader.waiting ≡ option_map kept_waiting (waiting lines)

-- the reader was given these lines, as bytes
abbrev pub HasReadLines : TapReader → List (List ℕ) → Type 0
HasReadLines reader lines = HasTakenLines reader (map input_of lines)
