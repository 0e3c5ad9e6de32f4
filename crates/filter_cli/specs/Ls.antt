-- The tests of a stream, listed as they complete (docs/COMMANDS.md, "subunit-ls").
use Rattle.std.specs.Prelude.{ℕ, ◌||◌, List, [], ◌++◌, if◌then◌else◌}
use Rattle.std.specs.List.{flat_map}
use Rattle.std.specs.Option.{option_to_list}
use Rattle.packet_codec.specs.declared.event.Event.{Event}
use Rattle.stream_reader.specs.declared.note.Note.{Note}
use Rattle.stream_reader.specs.declared.note.Note.TheVariants as note
use Rattle.outcome_fold.specs.declared.row.Row.{Row}
use Rattle.outcome_fold.specs.Rows.{completed_row, completed_rows, open_rows}
use Rattle.outcome_fold.specs.Answers.{is_run, status_of}
use Rattle.sub_text.specs.Listed.{ls_line_of}
use Rattle.filter_cli.specs.declared.ls.Listing.{Listing}
use Rattle.filter_cli.specs.Plan.{Plan}
use Rattle.filter_cli.specs.Events.{events_among, passed_on, loose_bytes}

-- a test that is only known to exist is listed where that is asked for
abbrev pub shown_line : Listing → Row → List ℕ
shown_line listing row = if is_run row || listing.exists then ls_line_of row listing.times else []

-- foreign bytes, or the loose file of the event, or the line of the test that it completes
abbrev pub listed : Listing → List Event → Note → List ℕ
listed listing seen (note.Foreign bytes) = passed_on listing.hidden bytes
listed listing seen (note.Event event) = passed_on listing.hidden (loose_bytes event) ++ flat_map (shown_line listing) (option_to_list (completed_row seen event))

-- at the end the tests that are left open, by route and id; 1 where a test failed
abbrev pub ls_plan : Listing → Plan
ls_plan listing = record {
  gives = λ before note. listed listing (events_among before) note;
  at_end = λ notes. flat_map (shown_line listing) (open_rows (events_among notes));
  status = λ notes. status_of (completed_rows (events_among notes) ++ open_rows (events_among notes));
}
