-- The events of lines of version 1 (docs/FORMATS.md, "Version 1").
use Rattle.std.specs.Prelude.{ℕ, ◌*◌, ◌/◌, ◌==◌, true, false, Option, Some, None, List, [], ◌∷◌, ◌++◌, map, take, drop, length, codes, if◌then◌else◌}
use Rattle.std.specs.List.{range_with_len}
use Rattle.std.specs.Option.{option_map}
use Rattle.packet_codec.specs.declared.stamp.Stamp.{Stamp}
use Rattle.packet_codec.specs.declared.event.Event.{Event}
use Rattle.packet_codec.specs.declared.event.FilePart.{FilePart}
use Rattle.packet_codec.specs.declared.status.Status.{Status}
use Rattle.packet_codec.specs.declared.status.Status.TheVariants as status
use Rattle.stream_reader.specs.Notes.{stdout_event}
use Rattle.sub_number.specs.Lines.{with_newline}
use Rattle.v1_bridge.specs.declared.part.Part.{Part}

-- Pieces.

-- the most bytes of a line, its carriage return counted, and those of a piece
abbrev pub longest_v1_line : ℕ
longest_v1_line = 65536

-- the piece of so many bytes, counted from 0
abbrev pub piece_at : List ℕ → ℕ → List ℕ
piece_at bytes number = take longest_v1_line (drop (longest_v1_line * number) bytes)

-- the pieces of so many bytes at the front
abbrev pub full_pieces : List ℕ → List (List ℕ)
full_pieces bytes = map (piece_at bytes) (range_with_len 0 (length bytes / longest_v1_line))

-- what stands behind them
abbrev pub behind_pieces : List ℕ → List ℕ
behind_pieces bytes = drop (longest_v1_line * (length bytes / longest_v1_line)) bytes

-- Output.

-- the event of a line that is no part of a test
abbrev pub line_event : List ℕ → Event
line_event bytes = stdout_event (with_newline bytes)

-- the event of a piece that is no part of a test, where it has bytes
abbrev pub stdout_events_of : List ℕ → List Event
stdout_events_of bytes = if length bytes == 0 then [] else stdout_event bytes ∷ []

-- Events of a test.

-- the name of the file of a test that ended so
abbrev pub outcome_file_name : Status → List ℕ
outcome_file_name status.Unset = codes "traceback"
outcome_file_name status.Exists = codes "traceback"
outcome_file_name status.InProgress = codes "traceback"
outcome_file_name status.Success = codes "message"
outcome_file_name status.UxSuccess = codes "message"
outcome_file_name status.Skip = codes "reason"
outcome_file_name status.Fail = codes "traceback"
outcome_file_name status.XFail = codes "traceback"

-- the MIME type of details that tell none: those of lines up to a bracket
abbrev pub details_mime : List ℕ
details_mime = codes "text/plain;charset=utf8"

-- the part that the lines of a test are that ended so, before the first of them
abbrev pub lines_part : Status → Part
lines_part how = record { mime = details_mime; name = outcome_file_name how; held = [] }

-- the file of what is held of a part
abbrev pub held_file : Part → FilePart
held_file p = record { name = p.name; bytes = p.held }

-- an event of a test, with what is held of this part
abbrev pub event_with : Option Stamp → List ℕ → Option (List (List ℕ)) → Status → Option Part → Event
event_with last id names how part = record {
  stamp = last;
  id = Some id;
  tags = names;
  runnable = true;
  status = how;
  mime = option_map (λ (p : Part). p.mime) part;
  file = option_map held_file part;
  eof = false;
  route = None;
}

-- tags, where there are any
abbrev pub tags_told : List (List ℕ) → Option (List (List ℕ))
tags_told names = if length names == 0 then None else Some names

-- the event with which a test begins
abbrev pub begun_event : Option Stamp → List ℕ → Event
begun_event last id = event_with last id None status.InProgress None

-- the event with which it ends
abbrev pub completing_event : Option Stamp → List ℕ → List (List ℕ) → Status → Option Part → Event
completing_event last id names how part = event_with last id (tags_told names) how part

-- Parts.

-- the part, of which these bytes are held
abbrev pub part_holding : Part → List ℕ → Part
part_holding p bytes = record { mime = p.mime; name = p.name; held = bytes }

-- the event of bytes of a part of the open test
abbrev pub piece_event : List ℕ → Part → List ℕ → Event
piece_event id p bytes = event_with None id None status.Unset (Some (part_holding p bytes))

-- the part, with these bytes behind those held, of which no full piece is held
abbrev pub part_with_bytes : Part → List ℕ → Part
part_with_bytes p bytes = part_holding p (behind_pieces (p.held ++ bytes))

-- the events of the full pieces
abbrev pub pieces_given : List ℕ → Part → List ℕ → List Event
pieces_given id p bytes = map (piece_event id p) (full_pieces (p.held ++ bytes))

-- the part, where bytes of it are held
abbrev pub left_of : Part → Option Part
left_of p = if length p.held == 0 then None else Some p

-- the event of what is held of a part, where bytes are
abbrev pub rest_events : List ℕ → Part → List Event
rest_events id p = if length p.held == 0 then [] else piece_event id p p.held ∷ []
