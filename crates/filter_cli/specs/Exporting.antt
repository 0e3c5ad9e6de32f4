-- The records of tests (docs/COMMANDS.md, "subunit2csv").
use Rattle.std.specs.Prelude.{ℕ, Bool, List, []}
use Rattle.std.specs.List.{flat_map}
use Rattle.packet_codec.specs.declared.event.Event.{Event}
use Rattle.stream_reader.specs.declared.note.Note.{Note}
use Rattle.stream_reader.specs.declared.note.Note.TheVariants as note
use Rattle.outcome_fold.specs.declared.row.Row.{Row}
use Rattle.event_sift.specs.declared.rules.Rules.{Rules}
use Rattle.event_sift.specs.Keeping.{keeps}
use Rattle.sub_export.specs.Records.{csv_head_text, csv_row_of, kept_part_at, kept_open_parts}
use Rattle.filter_cli.specs.Plan.{Plan, IsSeen, IsFiltered}
use Rattle.filter_cli.specs.Headed.{IsSeenBelow, IsWholeBelow}
use Rattle.filter_cli.specs.Events.{events_among}

-- the record of the part that the event completes, where it is kept; foreign bytes are dropped
abbrev pub record_at : (Row → Bool) → List Event → Note → List ℕ
record_at kept seen (note.Foreign bytes) = []
record_at kept seen (note.Event event) = flat_map csv_row_of (kept_part_at kept seen event)

-- at the end the records of the open tests that are kept, by route and id
abbrev pub csv_plan : (Row → Bool) → Plan
csv_plan kept = record {
  gives = λ before note. record_at kept (events_among before) note;
  at_end = λ notes. flat_map csv_row_of (kept_open_parts kept (events_among notes));
  status = λ notes. 0;
}

-- the text that first bytes decide: none before the first byte, and then the head and the records of the parts completed
-- so far
abbrev pub IsCsvSeen : Rules → List ℕ → List ℕ → Type 0
IsCsvSeen rules = IsSeenBelow csv_head_text (IsSeen (csv_plan (keeps rules)))

-- the text of a whole stream, and its status: the head, also where the stream is empty, all records, and 0
abbrev pub IsCsvFiltered : Rules → List ℕ → List ℕ → ℕ → Type 0
IsCsvFiltered rules = IsWholeBelow csv_head_text (IsFiltered (csv_plan (keeps rules)))
