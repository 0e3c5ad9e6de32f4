-- The events of a stream that are let through (docs/COMMANDS.md, "subunit-filter").
use Rattle.std.specs.Prelude.{ℕ, Bool, List, [], if◌then◌else◌}
use Rattle.packet_codec.specs.declared.event.Event.{Event}
use Rattle.packet_codec.specs.Canonical.{packets_of}
use Rattle.stream_reader.specs.declared.note.Note.{Note}
use Rattle.stream_reader.specs.declared.note.Note.TheVariants as note
use Rattle.event_sift.specs.declared.rules.Rules.{Rules}
use Rattle.event_sift.specs.Keeping.{keeps}
use Rattle.event_sift.specs.Released.{released, released_at_end}
use Rattle.filter_cli.specs.Plan.{Plan}
use Rattle.filter_cli.specs.Events.{passed_on, is_hidden_output, events_heard}

-- foreign bytes, or the packets of the events that are released at the event, unless it is hidden
abbrev pub let_through : Rules → Bool → List Event → Note → List ℕ
let_through rules hidden seen (note.Foreign bytes) = passed_on hidden bytes
let_through rules hidden seen (note.Event event) = if is_hidden_output hidden event then [] else packets_of (released (keeps rules) seen event)

-- What is let through of the events that are not hidden. At the end it is the packets of the open tests that are kept, by
-- route and id.
abbrev pub filter_plan : Rules → (hidden : Bool) → Plan
filter_plan rules hidden = record {
  gives = λ before note. let_through rules hidden (events_heard hidden before) note;
  at_end = λ notes. packets_of (released_at_end (keeps rules) (events_heard hidden notes));
  status = λ notes. 0;
}
