-- The counts of a stream (docs/COMMANDS.md, "subunit-stats").
use Rattle.std.specs.Prelude.{ℕ, Bool, List}
use Rattle.stream_reader.specs.declared.note.Note.{Note}
use Rattle.stream_reader.specs.declared.note.Note.TheVariants as note
use Rattle.outcome_fold.specs.Rows.{rows_of}
use Rattle.outcome_fold.specs.Answers.{status_of}
use Rattle.sub_text.specs.Listed.{stats_of}
use Rattle.filter_cli.specs.Plan.{Plan}
use Rattle.filter_cli.specs.Events.{events_among, passed_on, loose_bytes}
use Rattle.filter_cli.specs.declared.stats.Counting.{Counting}

-- the output of no test that a note is: foreign bytes, or the loose file of the event
abbrev pub passed_at : Bool → Note → List ℕ
passed_at hidden (note.Foreign bytes) = passed_on hidden bytes
passed_at hidden (note.Event event) = passed_on hidden (loose_bytes event)

-- output of no test as it is decided, unless it is hidden, and at the end the counts of all rows; 1 where a test failed
abbrev pub stats_plan : Counting → Plan
stats_plan counting = record {
  gives = λ before note. passed_at counting.hidden note;
  at_end = λ notes. stats_of (rows_of (events_among notes));
  status = λ notes. status_of (rows_of (events_among notes));
}
