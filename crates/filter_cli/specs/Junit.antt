-- The tests of a stream as JUnit XML (docs/FORMATS.md, "JUnit XML").
use Rattle.std.specs.Prelude.{List, []}
use Rattle.outcome_fold.specs.Rows.{rows_of}
use Rattle.outcome_fold.specs.Answers.{status_of}
use Rattle.junit_xml.specs.Documents.{junit_of}
use Rattle.filter_cli.specs.Plan.{Plan}
use Rattle.filter_cli.specs.Events.{events_among}

-- nothing before the end, and then the document of all rows; 1 where a test failed
abbrev pub junit_plan : Plan
junit_plan = record {
  gives = λ before note. [];
  at_end = λ notes. junit_of (rows_of (events_among notes));
  status = λ notes. status_of (rows_of (events_among notes));
}
