-- What a fold has seen, and how one event changes it (docs/FORMATS.md, "The fold").
use Rattle.std.specs.Prelude.{◌≡◌, ℕ, Bool, false, Option, None, Some, List, [], is_some, if◌then◌else◌}
use Rattle.std.specs.FinMap as map
use Rattle.std.specs.FinMap.{FinMap}
use Rattle.packet_codec.specs.declared.status.Status.{Status}
use Rattle.packet_codec.specs.declared.event.Event.{Event}
use Rattle.outcome_fold.specs.declared.row.Ended.{Ended}
use Rattle.outcome_fold.specs.declared.test_key.TestKey.{TestKey}
use Rattle.outcome_fold.specs.declared.part.Started.{Started}
use Rattle.outcome_fold.specs.declared.row.Row.{Row}
use Rattle.outcome_fold.specs.declared.fold.Held.{Held}
use Rattle.outcome_fold.specs.declared.fold.Fold.{Fold}
use Rattle.outcome_fold.specs.Order.{test_cmp, in_byte_order}
use Rattle.outcome_fold.specs.Rows.{is_failure, is_skip}
use Rattle.outcome_fold.specs.declared.part.Said.{Said}
use Rattle.outcome_fold.specs.Parts.{test_of, ended_by, first_text_line}
use Rattle.outcome_fold.specs.declared.files.KeptFiles.{KeptFiles}
use Rattle.outcome_fold.specs.Files.{no_files, text_shown}
use Rattle.outcome_fold.specs.Started.{fresh, after, open_table, IsSaidBy, fresh_said, after_said}

-- what the parts of the open tests say, by test, but for the one that is held
abbrev pub other_parts_in : Fold → FinMap test_cmp Started
other_parts_in fold = map.from_entries {R = test_cmp} fold.others.entries

-- the table with the part that is held put into it, where there is one
abbrev pub with_held : Option Held → FinMap test_cmp Started → FinMap test_cmp Started
with_held None others = others
with_held (Some held) others = map.insert others held.key held.part

-- what the parts of the open tests say, by test
abbrev pub open_in : Fold → FinMap test_cmp Started
open_in fold = with_held fold.held (other_parts_in fold)

-- the fold has taken these events
abbrev pub HasSeen : Fold → List Event → Type 0
HasSeen fold seen = open_in fold ≡ open_table seen

-- what a part says with one event more, which is its first where nothing stands before it
abbrev pub extended : Option Started → Event → Started
extended None e = after (fresh e) e
extended (Some s) e = after s e

-- the same, by what the event says
abbrev pub extended_by : Option Started → Said → Started
extended_by None said = after_said (fresh_said said) said
extended_by (Some s) said = after_said s said

-- the table where the part of the test has one event more, which says this, if the test is open
abbrev pub with_extended : FinMap test_cmp Started → TestKey → Said → FinMap test_cmp Started
with_extended kept test said = if is_some (map.get kept test) then map.insert kept test (extended_by (map.get kept test) said) else kept

-- the event speaks of this test, ends it so, and says this of it
pub record Speaks (e : Event) (test : TestKey) (how : Option Ended) (said : Said) : Type 0 where
  pub test_is : Some test ≡ test_of e
  pub how_is : how ≡ ended_by e.status
  pub says : IsSaidBy said e

-- the files of text of the part of a test, which has none where it is not open
abbrev pub files_in : Option Started → KeptFiles
files_in None = no_files
files_in (Some s) = s.files

-- a part that ended so gives a row that fails, and one that has not ended gives none
abbrev pub is_failing_end : Option Ended → Bool
is_failing_end None = false
is_failing_end (Some how) = is_failure how

-- an event of this status gives a row that fails, where it speaks of a test
abbrev pub gives_failure : Status → Bool
gives_failure status = is_failing_end (ended_by status)

-- the text of the row of a part that ended so: that of its files where it fails, else none
abbrev pub row_text : Ended → KeptFiles → List ℕ
row_text how files = if is_failure how then text_shown files else []

-- the row of a part that says this
abbrev pub row_at : TestKey → Ended → Option ℕ → Started → Row
row_at test how nanos s = record {
  id = test.id;
  route = test.route;
  ended = how;
  tags = in_byte_order s.tags;
  nanos = nanos;
  text = row_text how s.files;
  reason = if is_skip how then first_text_line s.reason else [];
}
