-- What is written, read again (docs/FORMATS.md, "Version 1").
use Rattle.std.specs.Prelude.{◌≡◌, ℕ, ◌≤◌, ◌++◌, Bool, IsTrue, Option, Some, None, List, map, length, nat_le}
use Rattle.std.specs.List.{filter, list_all}
use Rattle.packet_codec.specs.declared.event.Event.{Event}
use Rattle.stream_reader.specs.declared.note.Note.TheVariants as note
use Rattle.outcome_fold.specs.declared.row.Ended.{Ended}
use Rattle.outcome_fold.specs.declared.row.Ended.TheVariants as ended
use Rattle.outcome_fold.specs.declared.row.Row.{Row}
use Rattle.outcome_fold.specs.Order.{in_byte_order}
use Rattle.outcome_fold.specs.Rows.{completed_rows, open_rows, rows_of}
use Rattle.v1_bridge.specs.TagWords.{is_name, is_utf8_text}
use Rattle.v1_bridge.specs.Writing.{is_written, is_line_tag, tag_words, v1_text}
use Rattle.v1_bridge.specs.Cutting.{lines_of}
use Rattle.v1_bridge.specs.Reading.{v1_events}

-- no control character
abbrev pub is_shown : ℕ → Bool
is_shown byte = nat_le 32 byte

-- an id that a line tells as it is
pub record IsPlainId (id : List ℕ) : Type 0 where
  pub name : IsTrue (is_name id)
  pub shown : IsTrue (list_all is_shown id)
  pub short : length id ≤ 65000

-- tags that one line tells, all of them
pub record ArePlainTags (names : List (List ℕ)) : Type 0 where
  pub forms : IsTrue (list_all is_line_tag names)
  pub texts : IsTrue (list_all is_utf8_text names)
  pub short : length (tag_words names) ≤ 65001

-- the set of an event's tags, where it has any, is such
abbrev pub HasPlainTags : Option (List (List ℕ)) → Type 0
HasPlainTags None = Unit {0}
HasPlainTags (Some names) = ArePlainTags (in_byte_order names)

-- an event whose id and tags lines tell as they are
pub record IsPlainEvent (e : Event) : Type 0 where
  pub id : List ℕ
  pub has_id : e.id ≡ Some id
  pub plain : IsPlainId id
  pub tags : HasPlainTags e.tags

-- what is said of a row: its id, its tags and how the test ended
pub record SaidOfRow : Type 0 where
  pub id : List ℕ
  pub tags : List (List ℕ)
  pub ended : Ended

-- what is said of a row as it stands
abbrev pub said_of : Row → SaidOfRow
said_of row = record { id = row.id; tags = row.tags; ended = row.ended }

-- how the end of a test is read again: an open test has failed
abbrev pub end_again : Ended → Ended
end_again ended.Exists = ended.Exists
end_again ended.Success = ended.Success
end_again ended.UxSuccess = ended.UxSuccess
end_again ended.Skip = ended.Skip
end_again ended.Fail = ended.Fail
end_again ended.XFail = ended.XFail
end_again ended.Open = ended.Fail

-- what is said again of a row that was written
abbrev pub said_again : Row → SaidOfRow
said_again row = record { id = row.id; tags = row.tags; ended = end_again row.ended }

-- the row is of a part that is written: any but one that only tells that its test exists
abbrev pub row_is_written : Row → Bool
row_is_written row = is_written row.ended

-- the rows that are written, in their order: the completed ones, and then the open ones by route and id
abbrev pub written_rows : List Event → List Row
written_rows events = filter row_is_written (completed_rows events ++ open_rows events)

-- the events that are read where these were written
abbrev pub events_again : List Event → List Event
events_again events = v1_events (lines_of (v1_text (map note.Event events)))

-- reading what was written gives a row for each row that was written, in their order
abbrev pub SaysAgain : List Event → Type 0
SaysAgain events = map said_of (rows_of (events_again events)) ≡ map said_again (written_rows events)
