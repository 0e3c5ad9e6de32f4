-- What the events of a part say together, event by event (docs/FORMATS.md, "The fold").
use Rattle.std.specs.Prelude.{◌≡◌, List, [], ◌++◌, take}
use Rattle.std.specs.FinMap.{FinMap}
use Rattle.std.specs.Option.{option_map, unwrap_or}
use Rattle.packet_codec.specs.declared.event.Event.{Event}
use Rattle.outcome_fold.specs.declared.part.Started.{Started}
use Rattle.outcome_fold.specs.declared.part.Said.{Said}
use Rattle.outcome_fold.specs.Order.{test_cmp, table}
use Rattle.outcome_fold.specs.Parts.{instant, start_of, last_tags, text_in, reason_in, reason_limit, reason_of, events_of_test, last_part}
use Rattle.outcome_fold.specs.Files.{name_in, files_of, no_files, with_piece}
use Rattle.outcome_fold.specs.Rows.{open_tests}

-- before the first event, which is this one
abbrev pub fresh : Event → Started
fresh e = record { start = option_map instant e.stamp; tags = []; files = no_files; reason = [] }

-- after one event more
abbrev pub after : Started → Event → Started
after s e = record {
  start = s.start;
  tags = unwrap_or e.tags s.tags;
  files = with_piece s.files (name_in e.file) (text_in e.mime e.file);
  reason = take reason_limit (s.reason ++ reason_in e.file);
}

-- this is what the event says of its test
pub record IsSaidBy (said : Said) (e : Event) : Type 0 where
  pub instant : said.instant ≡ option_map instant e.stamp
  pub tags : said.tags ≡ e.tags
  pub name : said.name.now ≡ name_in e.file
  pub text : said.text.now ≡ text_in e.mime e.file
  pub reason : said.reason.now ≡ reason_in e.file

-- the same as `fresh`, by what the event says
abbrev pub fresh_said : Said → Started
fresh_said said = record { start = said.instant; tags = []; files = no_files; reason = [] }

-- the same as `after`, by what the event says
abbrev pub after_said : Started → Said → Started
after_said s said = record {
  start = s.start;
  tags = unwrap_or said.tags s.tags;
  files = with_piece s.files said.name.now said.text.now;
  reason = take reason_limit (s.reason ++ said.reason.now);
}

-- what a whole part says
abbrev pub started_of : List Event → Started
started_of part = record { start = start_of part; tags = last_tags part; files = files_of part; reason = reason_of part }

-- what the last parts of the open tests say
abbrev pub open_table : List Event → FinMap test_cmp Started
open_table seen = table {R = test_cmp} (λ test. started_of (last_part (events_of_test test seen))) (open_tests seen)
