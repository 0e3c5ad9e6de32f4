-- What a part of a test says that has ended, or that is open at the end (docs/FORMATS.md, "The fold").
use Rattle.std.specs.Prelude.{ℕ, Option, None, Some, List, []}
use Rattle.std.specs.FinMap as fin
use Rattle.std.specs.Option.{option_map}
use Rattle.packet_codec.specs.declared.event.Event.{Event}
use Rattle.outcome_fold.specs.declared.row.Ended.{Ended}
use Rattle.outcome_fold.specs.declared.row.Ended.TheVariants as ended
use Rattle.outcome_fold.specs.declared.row.Row.{Row}
use Rattle.outcome_fold.specs.declared.test_key.TestKey.{TestKey}
use Rattle.outcome_fold.specs.declared.part.Started.{Started}
use Rattle.outcome_fold.specs.declared.part.EndedPart.{EndedPart}
use Rattle.outcome_fold.specs.Order.{test_cmp, table}
use Rattle.outcome_fold.specs.Parts.{test_of, events_of_test, ended_by, last_part, instant, elapsed}
use Rattle.outcome_fold.specs.Rows.{part_with, open_tests}
use Rattle.outcome_fold.specs.Started.{started_of}
use Rattle.outcome_fold.specs.Folded.{row_at, row_text}

-- what the part says that the event completes, by the test it speaks of and how it ends it
abbrev pub part_completing : Option TestKey → Option Ended → List Event → Event → Option EndedPart
part_completing None how seen e = None
part_completing (Some test) None seen e = None
part_completing (Some test) (Some how) seen e =
    Some (record { key = test; ended = how; started = started_of (part_with test seen e); end = option_map instant e.stamp })

-- what the part says that the event completes, where these events came before it
abbrev pub completed_part : List Event → Event → Option EndedPart
completed_part seen e = part_completing (test_of e) (ended_by e.status) seen e

-- what the part of a test says that is open at the end
abbrev pub part_of_open : TestKey → Started → EndedPart
part_of_open test s = record { key = test; ended = ended.Open; started = s; end = None }

-- what the parts say of the tests whose last part is not completed, by route and id
abbrev pub open_parts : List Event → List EndedPart
open_parts es = fin.values (table {R = test_cmp} (λ test. part_of_open test (started_of (last_part (events_of_test test es)))) (open_tests es))

-- the row of a part that says this
abbrev pub row_of_part : EndedPart → Row
row_of_part p = row_at p.key p.ended (elapsed p.started.start p.end) p.started

-- the text of the row of the part, where there is one
abbrev pub text_told : Option EndedPart → List ℕ
text_told None = []
text_told (Some p) = row_text p.ended p.started.files
