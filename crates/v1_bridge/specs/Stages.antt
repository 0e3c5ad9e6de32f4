-- Parts of details, read from the bytes of lines (docs/FORMATS.md, "Version 1").
use Rattle.std.specs.Prelude.{ℕ, ◌-◌, ◌==◌, ◌&&◌, Bool, false, Option, Some, None, List, [], ◌∷◌, ◌++◌, take, drop, length, nat_eq, nat_le, codes, if◌then◌else◌}
use Rattle.std.specs.Cmp.Lexicographic.{pointwise}
use Rattle.packet_codec.specs.declared.event.Event.{Event}
use Rattle.packet_codec.specs.declared.status.Status.{Status}
use Rattle.sub_number.specs.Lines.{begins, with_newline}
use Rattle.v1_bridge.specs.declared.chunk_size.Extent.{Extent}
use Rattle.v1_bridge.specs.declared.chunk_size.Extent.TheVariants as extent
use Rattle.v1_bridge.specs.declared.chunk_size.Size.{Size}
use Rattle.v1_bridge.specs.declared.chunk_size.Size.TheVariants as size
use Rattle.v1_bridge.specs.declared.part.Part.{Part}
use Rattle.v1_bridge.specs.declared.details_stage.Place.{Place}
use Rattle.v1_bridge.specs.declared.details_stage.Place.TheVariants as place
use Rattle.v1_bridge.specs.declared.details_stage.Stage.{Stage}
use Rattle.v1_bridge.specs.declared.details_stage.Stage.TheVariants as stage
use Rattle.v1_bridge.specs.Lines.{content, without_newline}
use Rattle.v1_bridge.specs.TagWords.{is_utf8_text, is_name}
use Rattle.v1_bridge.specs.Sizes.{size_in}
use Rattle.v1_bridge.specs.Events.{line_event, stdout_events_of, outcome_file_name, part_with_bytes, pieces_given, rest_events}

-- what some bytes of a line give, and where the details stand behind them
pub record StageStep : Type 0 where
  pub given : List Event
  pub stage : Stage

-- Sizes.

-- where a part stands behind the size of a chunk, or where so many bytes of a chunk are still to come
abbrev pub place_before : ℕ → Place
place_before left = if left == 0 then place.Size [] else place.Chunk left

-- What stands where a size should, and is none: the rest of a line, or of the pieces of one that is too long.
abbrev pub foreign_run : Extent → List ℕ → List ℕ → List Event
foreign_run extent.Whole so_far run = line_event (content (so_far ++ run)) ∷ []
foreign_run extent.Piece so_far run = stdout_events_of so_far ++ stdout_events_of (without_newline run)
foreign_run extent.Last so_far run = stdout_events_of so_far ++ stdout_events_of (without_newline run)

-- a size of zero ends the part, any other begins a chunk
abbrev pub sized : List ℕ → Part → ℕ → StageStep
sized id p count =
    if count == 0 then record { given = rest_events id p; stage = stage.Between }
    else record { given = []; stage = stage.Bytes p (place.Chunk count) }

-- What a run gives by what it tells of a size. A bad one ends the part, and its bytes are output of no test; of an open
-- one the bytes are kept.
abbrev pub size_told : List ℕ → Part → List ℕ → List ℕ → Extent → Size → StageStep
size_told id p so_far run extent size.Bad = record { given = rest_events id p ++ foreign_run extent so_far run; stage = stage.Between }
size_told id p so_far run extent size.Open = record { given = []; stage = stage.Bytes p (place.Size (so_far ++ run)) }
size_told id p so_far run extent (size.Told count) = sized id p count

-- what a run tells of a size that begins with the bytes read so far
abbrev pub size_in_run : List ℕ → List ℕ → Extent → Size
size_in_run so_far run extent = size_in extent (so_far ++ run)

-- a run of bytes where a size is read, of which these bytes were read so far
abbrev pub size_run : List ℕ → Part → List ℕ → List ℕ → Extent → StageStep
size_run id p so_far run extent = size_told id p so_far run extent (size_in_run so_far run extent)

-- Chunks.

-- these events first
abbrev pub given_first : List Event → StageStep → StageStep
given_first events t = record { given = events ++ t.given; stage = t.stage }

-- a run of bytes in a chunk, of which so many bytes are still to come
abbrev pub chunk_run : List ℕ → Part → ℕ → List ℕ → Extent → StageStep
chunk_run id p left run extent =
    if nat_le (length run) left then record { given = pieces_given id p run; stage = stage.Bytes (part_with_bytes p run) (place_before (left - length run)) }
    else given_first (pieces_given id p (take left run)) (size_run id (part_with_bytes p (take left run)) [] (drop left run) extent)

-- a run of bytes in a part, where its size is read or in a chunk
abbrev pub part_run : List ℕ → Part → Place → List ℕ → Extent → StageStep
part_run id p (place.Size so_far) run extent = size_run id p so_far run extent
part_run id p (place.Chunk left) run extent = chunk_run id p left run extent

-- Between parts.

-- the MIME type that a line tells, which begins a part
abbrev pub type_of : List ℕ → Option (List ℕ)
type_of bytes = if begins (codes "Content-Type: ") bytes && is_name (drop 14 bytes) then Some (drop 14 bytes) else None

-- a line between parts, by the MIME type that it tells; one that tells none is output of no test
abbrev pub typed_with : Option (List ℕ) → List ℕ → StageStep
typed_with None bytes = record { given = line_event bytes ∷ []; stage = stage.Between }
typed_with (Some mime) bytes = record { given = []; stage = stage.Typed mime }

-- a line between parts, other than a bracket
abbrev pub between_line : List ℕ → StageStep
between_line bytes = typed_with (type_of bytes) bytes

-- the name of a part: the text that a line is, or else that of the file of a test that ended so
abbrev pub part_name_in : Status → List ℕ → List ℕ
part_name_in how bytes = if is_utf8_text bytes then bytes else outcome_file_name how

-- a part before its first chunk
abbrev pub new_part : List ℕ → List ℕ → Stage
new_part mime name = stage.Bytes (record { mime = mime; name = name; held = [] }) (place.Size [])

-- the line behind that of a MIME type
abbrev pub part_name_line : Status → List ℕ → List ℕ → StageStep
part_name_line how mime bytes = record { given = []; stage = new_part mime (part_name_in how bytes) }

-- a piece of a line that is too long, between parts
abbrev pub between_piece : List ℕ → StageStep
between_piece bytes = record { given = stdout_events_of (without_newline bytes); stage = stage.Between }

-- a piece of a line that is too long for a name
abbrev pub name_piece : Status → List ℕ → List ℕ → Bool → StageStep
name_piece how mime bytes last = record {
  given = stdout_events_of (without_newline bytes);
  stage = if last then new_part mime (outcome_file_name how) else stage.Typed mime;
}

-- Lines up to a bracket.

-- the line without the space in front of a bracket
abbrev pub unquoted : List ℕ → List ℕ
unquoted bytes = if begins (codes " ]") bytes then drop 1 bytes else bytes

-- bytes of the part that such lines are
abbrev pub lines_run : List ℕ → Part → List ℕ → StageStep
lines_run id p bytes = record { given = pieces_given id p bytes; stage = stage.Lines (part_with_bytes p bytes) }

-- a line, whose content is this
abbrev pub lines_line : List ℕ → Part → List ℕ → StageStep
lines_line id p bytes = lines_run id p (with_newline (unquoted bytes))

-- a piece of a line that is too long
abbrev pub lines_piece : List ℕ → Part → List ℕ → Bool → StageStep
lines_piece id p bytes last = lines_run id p (if last then with_newline (without_newline bytes) else bytes)

-- Any details.

-- where a piece of a line that is too long ends
abbrev pub extent_of : Bool → Extent
extent_of last = if last then extent.Last else extent.Piece

-- a piece of a line that is too long, among the details of a test that ended so
abbrev pub stage_piece : List ℕ → Status → Stage → List ℕ → Bool → StageStep
stage_piece id how (stage.Lines p) bytes last = lines_piece id p bytes last
stage_piece id how stage.Between bytes last = between_piece bytes
stage_piece id how (stage.Typed mime) bytes last = name_piece how mime bytes last
stage_piece id how (stage.Bytes p place) bytes last = part_run id p place bytes (extent_of last)

-- a line among them, which does not end them
abbrev pub stage_line : List ℕ → Status → Stage → List ℕ → StageStep
stage_line id how (stage.Lines p) bytes = lines_line id p (content bytes)
stage_line id how stage.Between bytes = between_line (content bytes)
stage_line id how (stage.Typed mime) bytes = part_name_line how mime (content bytes)
stage_line id how (stage.Bytes p place) bytes = part_run id p place bytes extent.Whole

-- a line that is a bracket
abbrev pub is_bracket_line : List ℕ → Bool
is_bracket_line bytes = pointwise nat_eq (codes "]") (content bytes)

-- the line ends the details
abbrev pub ends_details : Stage → List ℕ → Bool
ends_details (stage.Lines p) bytes = is_bracket_line bytes
ends_details stage.Between bytes = is_bracket_line bytes
ends_details (stage.Typed mime) bytes = false
ends_details (stage.Bytes p place) bytes = false

-- what is held of details
abbrev pub held_part : Stage → Option Part
held_part (stage.Lines p) = Some p
held_part stage.Between = None
held_part (stage.Typed mime) = None
held_part (stage.Bytes p place) = Some p
