-- Events as lines of version 1 (docs/FORMATS.md, "Version 1").
use Rattle.std.specs.Prelude.{ℕ, ◌==◌, ◌&&◌, ◌||◌, not, Bool, true, false, Option, Some, None, List, [], ◌∷◌, ◌++◌, map, length, nat_lt, codes, if◌then◌else◌}
use Rattle.std.specs.List.{flat_map, filter, list_all, list_any}
use Rattle.packet_codec.specs.declared.event.Event.{Event}
use Rattle.packet_codec.specs.declared.event.FilePart.{FilePart}
use Rattle.stream_reader.specs.declared.note.Note.{Note}
use Rattle.stream_reader.specs.declared.note.Note.TheVariants as note
use Rattle.outcome_fold.specs.declared.row.Ended.{Ended}
use Rattle.outcome_fold.specs.declared.row.Ended.TheVariants as ended
use Rattle.outcome_fold.specs.declared.test_key.TestKey.{TestKey}
use Rattle.outcome_fold.specs.declared.part.EndedPart.{EndedPart}
use Rattle.outcome_fold.specs.Order.{in_byte_order}
use Rattle.outcome_fold.specs.Parts.{test_of}
use Rattle.outcome_fold.specs.Files.{text_shown}
use Rattle.outcome_fold.specs.EndedParts.{completed_part, open_parts}
use Rattle.instants.specs.Instants.{instant_text}
use Rattle.sub_number.specs.Lines.{begins}

-- the last of the bytes, or else the one before them
abbrev pub last_byte_behind : ℕ → List ℕ → ℕ
last_byte_behind before [] = before
last_byte_behind before (byte ∷ bytes) = last_byte_behind byte bytes

-- The lines of one part.

-- a line with the time, where there is one
abbrev pub time_line : Option ℕ → List ℕ
time_line None = []
time_line (Some nanos) = codes "time: " ++ instant_text nanos ++ codes "Z\n"

-- a control character is shown as `?`
abbrev pub shown_byte : ℕ → ℕ
shown_byte byte = if nat_lt byte 32 then 63 else byte

-- the id as a line shows it, and `?` for one that is empty
abbrev pub shown_id : List ℕ → List ℕ
shown_id id = if length id == 0 then codes "?" else map shown_byte id

-- the line that begins the test of this id
abbrev pub test_begin_line : List ℕ → List ℕ
test_begin_line id = codes "test: " ++ shown_id id ++ codes "\n"

-- greater than a space
abbrev pub is_plain : ℕ → Bool
is_plain byte = nat_lt 32 byte

-- a tag that a line can tell
abbrev pub is_line_tag : List ℕ → Bool
is_line_tag tag = nat_lt 0 (length tag) && (not (begins (codes "-") tag) && list_all is_plain tag)

-- a tag as it stands in a line, behind the space that parts it from what is before
abbrev pub behind_space : List ℕ → List ℕ
behind_space tag = codes " " ++ tag

-- the tags that a line can tell, each behind a space
abbrev pub tag_words : List (List ℕ) → List ℕ
tag_words names = flat_map behind_space (filter is_line_tag names)

-- a line with these tags, where a line can tell one of them
abbrev pub v1_tags_line : List (List ℕ) → List ℕ
v1_tags_line names = if list_any is_line_tag names then codes "tags:" ++ tag_words names ++ codes "\n" else []

-- the word of an outcome, and its colon
abbrev pub outcome_word : Ended → List ℕ
outcome_word ended.Exists = []
outcome_word ended.Success = codes "success: "
outcome_word ended.UxSuccess = codes "uxsuccess: "
outcome_word ended.Skip = codes "skip: "
outcome_word ended.Fail = codes "failure: "
outcome_word ended.XFail = codes "xfail: "
outcome_word ended.Open = codes "error: "

-- The bytes with a space before each bracket that begins a line. The byte before them says whether the first does.
abbrev pub brackets_spaced : ℕ → List ℕ → List ℕ
brackets_spaced before [] = []
brackets_spaced before (byte ∷ bytes) = (if before == 10 && begins (codes "]") (byte ∷ bytes) then codes " " else []) ++ byte ∷ brackets_spaced byte bytes

-- one line, with a space before it where it begins with a bracket
abbrev pub quoted_line : List ℕ → List ℕ
quoted_line line = (if begins (codes "]") line then codes " " else []) ++ line

-- a newline, where this byte is none
abbrev pub newline_behind : ℕ → List ℕ
newline_behind byte = if byte == 10 then [] else 10 ∷ []

-- the text as whole lines, quoted
abbrev pub text_lines : List ℕ → List ℕ
text_lines text = brackets_spaced 10 text ++ newline_behind (last_byte_behind 10 text)

-- one more line, where the test was left open
abbrev pub open_line : Ended → List ℕ
open_line ended.Exists = []
open_line ended.Success = []
open_line ended.UxSuccess = []
open_line ended.Skip = []
open_line ended.Fail = []
open_line ended.XFail = []
open_line ended.Open = codes "not completed\n"

-- what stands between the brackets
abbrev pub detail_lines : Ended → List ℕ → List ℕ
detail_lines how text = text_lines text ++ open_line how

-- there is a line between them
abbrev pub has_details : Ended → List ℕ → Bool
has_details how text = nat_lt 0 (length text) || nat_lt 0 (length (open_line how))

-- what stands behind the id in the line of an outcome, and the lines of its text
abbrev pub details_of : Ended → List ℕ → List ℕ
details_of how text = if has_details how text then codes " [\n" ++ detail_lines how text ++ codes "]\n" else codes "\n"

-- the line of how a test of this id ended, with the lines of its text up to the bracket, where there are any
abbrev pub outcome_line : Ended → List ℕ → List ℕ → List ℕ
outcome_line how id text = outcome_word how ++ shown_id id ++ details_of how text

-- the lines of one part of a test
abbrev pub lines_of_part : EndedPart → List ℕ
lines_of_part p =
    time_line p.started.start ++ test_begin_line p.key.id ++ v1_tags_line (in_byte_order p.started.tags) ++ time_line p.end ++ outcome_line p.ended p.key.id (text_shown p.started.files)

-- Lists of events.

-- a test that is only told to exist is not written
abbrev pub is_written : Ended → Bool
is_written ended.Exists = false
is_written ended.Success = true
is_written ended.UxSuccess = true
is_written ended.Skip = true
is_written ended.Fail = true
is_written ended.XFail = true
is_written ended.Open = true

-- what is written of a part behind this byte: a newline first, where that is none
abbrev pub ended_part_text : ℕ → EndedPart → List ℕ
ended_part_text last p = if is_written p.ended then newline_behind last ++ lines_of_part p else []

-- what is written behind this byte at an event: the part that it completes, where it completes one
abbrev pub completed_text : ℕ → Option EndedPart → List ℕ
completed_text last None = []
completed_text last (Some p) = ended_part_text last p

-- the bytes of an event's file, and none where it has no file
abbrev pub file_bytes : Option FilePart → List ℕ
file_bytes None = []
file_bytes (Some file) = file.bytes

-- the bytes of a file, where there is no id
abbrev pub outside_bytes : Option (List ℕ) → Option FilePart → List ℕ
outside_bytes None file = file_bytes file
outside_bytes (Some id) file = []

-- the file of an event that speaks of no test, or the part that an event completes
abbrev pub event_text : ℕ → List Event → Event → Option TestKey → List ℕ
event_text last seen e None = file_bytes e.file
event_text last seen e (Some test) = completed_text last (completed_part seen e)

-- what is written of a note behind this byte, where these events came before it
abbrev pub note_text : ℕ → List Event → Note → List ℕ
note_text last seen (note.Foreign bytes) = bytes
note_text last seen (note.Event e) = event_text last seen e (test_of e)

-- the events, and that of the note, if it is one
abbrev pub seen_with : List Event → Note → List Event
seen_with seen (note.Foreign bytes) = seen
seen_with seen (note.Event e) = seen ++ e ∷ []

-- the events among notes, behind these
abbrev pub events_behind_notes : List Event → List Note → List Event
events_behind_notes seen [] = seen
events_behind_notes seen (n ∷ notes) = events_behind_notes (seen_with seen n) notes

-- the events among all notes, in order, without foreign bytes
abbrev pub events_in : List Note → List Event
events_in notes = events_behind_notes [] notes

-- what is written of notes behind this byte, where these events came before them
abbrev pub text_behind : ℕ → List Event → List Note → List ℕ
text_behind last seen [] = []
text_behind last seen (n ∷ notes) =
    note_text last seen n ++ text_behind (last_byte_behind last (note_text last seen n)) (seen_with seen n) notes

-- what is written before the end
abbrev pub text_so_far : List Note → List ℕ
text_so_far notes = text_behind 10 [] notes

-- the last byte of it; before the first byte a line begins, as behind a newline
abbrev pub last_byte : List Note → ℕ
last_byte notes = last_byte_behind 10 (text_so_far notes)

-- what is written of one note more
abbrev pub added_text : List Note → Note → List ℕ
added_text notes n = note_text (last_byte notes) (events_in notes) n

-- what is written of parts behind this byte
abbrev pub parts_text : ℕ → List EndedPart → List ℕ
parts_text last [] = []
parts_text last (p ∷ parts) = ended_part_text last p ++ parts_text (last_byte_behind last (ended_part_text last p)) parts

-- what is written at the end: the open tests, by route and id
abbrev pub text_at_end : List Note → List ℕ
text_at_end notes = parts_text (last_byte notes) (open_parts (events_in notes))

-- all that is written of the notes of a whole stream
abbrev pub v1_text : List Note → List ℕ
v1_text notes = text_so_far notes ++ text_at_end notes
