-- The tests of a stream as lines of version 1, as they complete (docs/FORMATS.md, "Version 1").
use Rattle.v1_bridge.specs.Writing.{added_text, text_at_end}
use Rattle.filter_cli.specs.Plan.{Plan}

-- what a note adds, and at the end the tests that are left open; the status is 0
abbrev pub v1_plan : Plan
v1_plan = record {
  gives = λ before note. added_text before note;
  at_end = λ notes. text_at_end notes;
  status = λ notes. 0;
}
