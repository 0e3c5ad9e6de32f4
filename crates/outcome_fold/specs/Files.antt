-- The files of text of a part of a test, and the text that shows them (docs/FORMATS.md, "The text of a row").
use Rattle.std.specs.Prelude.{ℕ, Bool, not, ◌||◌, Option, Some, None, List, [], ◌∷◌, ◌++◌, map, take, length, codes, is_some, ◌==◌, if◌then◌else◌}
use Rattle.std.specs.List.{filter, flat_map, list_all}
use Rattle.std.specs.Option.{option_map, unwrap_or}
use Rattle.std.specs.Str.{bytes_eq}
use Rattle.packet_codec.specs.declared.event.FilePart.{FilePart}
use Rattle.packet_codec.specs.declared.event.Event.{Event}
use Rattle.outcome_fold.specs.declared.files.KeptFiles.{KeptFiles}
use Rattle.outcome_fold.specs.Lines.{ends_line, whole_lines}
use Rattle.outcome_fold.specs.Parts.{text_in, text_limit}

-- The pieces of files.

-- the name of an event's file, where there is one
abbrev pub name_in : Option FilePart → List ℕ
name_in file = unwrap_or (option_map (λ file. file.name) file) []

-- the piece of a file of text that the event has, which has no bytes where it has none
abbrev pub piece_in : Event → FilePart
piece_in e = record { name = name_in e.file; bytes = text_in e.mime e.file }

-- there is at least one byte
abbrev pub has_any_byte : List ℕ → Bool
has_any_byte bytes = not (length bytes == 0)

-- the pieces of the part's files of text that have bytes, in their order
abbrev pub text_pieces_of : List Event → List FilePart
text_pieces_of part = filter (λ p. has_any_byte p.bytes) (map piece_in part)

-- the file of this name says how the test failed
abbrev pub is_traceback : List ℕ → Bool
is_traceback name = bytes_eq name (codes "traceback")

-- the pieces of the traceback, in their order
abbrev pub tracebacks_in : List FilePart → List FilePart
tracebacks_in pieces = filter (λ p. is_traceback p.name) pieces

-- the pieces of all other files, in their order
abbrev pub other_files_in : List FilePart → List FilePart
other_files_in pieces = filter (λ p. not (is_traceback p.name)) pieces

-- How a file stands that is not alone.

-- the line before a file of this name
abbrev pub frame_head : List ℕ → List ℕ
frame_head name = name ++ codes ": {{{\n"

-- what stands behind a file's bytes: the end of their last line where it has none, and a line
abbrev pub frame_end : List ℕ → List ℕ
frame_end text = if ends_line text then codes "}}}\n" else codes "\n}}}\n"

-- what stands between this text, whose file has this name, and a piece of the file of the next name
abbrev pub between : List ℕ → List ℕ → List ℕ → List ℕ
between name text next = if bytes_eq name next then [] else frame_end text ++ frame_head next

-- this text, whose file has this name, and behind it the pieces: those of one name that follow one another are one file
abbrev pub run_on : List ℕ → List ℕ → List FilePart → List ℕ
run_on name text [] = text
run_on name text (p ∷ ps) = run_on p.name (text ++ between name text p.name ++ p.bytes) ps

-- What is kept of them.

-- the pieces are all of the file of this name
abbrev pub are_one_file : List ℕ → List FilePart → Bool
are_one_file name ps = list_all (λ p. bytes_eq name p.name) ps

-- the name of the last piece, or this one where there are no pieces
abbrev pub last_name : List ℕ → List FilePart → List ℕ
last_name name [] = name
last_name name (p ∷ ps) = last_name p.name ps

-- what is kept where these are the pieces of the files but the traceback, and this is the traceback
abbrev pub kept_files_of : List FilePart → List ℕ → KeptFiles
kept_files_of [] traceback = record { first = None; later = None; others = []; traceback = traceback }
kept_files_of (p ∷ ps) traceback = record {
  first = Some p.name;
  later = if are_one_file p.name ps then None else Some (last_name p.name ps);
  others = take text_limit (run_on p.name p.bytes ps);
  traceback = traceback;
}

-- what is kept of these pieces: of the traceback the first bytes, and of the other files the first bytes of their joined
-- text
abbrev pub files_by : List FilePart → KeptFiles
files_by pieces = kept_files_of (other_files_in pieces) (take text_limit (flat_map (λ p. p.bytes) (tracebacks_in pieces)))

-- what is kept of the part's files of text
unfoldable pub files_of : List Event → KeptFiles
files_of part = files_by (text_pieces_of part)

-- no files
abbrev pub no_files : KeptFiles
no_files = record { first = None; later = None; others = []; traceback = [] }

-- The text that shows them.

-- several files but the traceback, of which the first has this name
abbrev pub framed : List ℕ → List ℕ → List ℕ
framed first others = whole_lines (take text_limit (frame_head first ++ others ++ frame_end others))

-- the text that shows what is kept: the names of the first other file and of a later one, the bytes of the others, and
-- the traceback
abbrev pub shown_by : Option (List ℕ) → Option (List ℕ) → List ℕ → List ℕ → List ℕ
shown_by None later others traceback = traceback
shown_by (Some first) later others traceback = if is_some later || has_any_byte traceback then framed first others ++ traceback else others

-- a file that is alone as it stands, and else each under its name and the traceback behind them
unfoldable pub text_shown : KeptFiles → List ℕ
text_shown files = shown_by files.first files.later files.others files.traceback

-- the text that the files of the part give
abbrev pub text_of : List Event → List ℕ
text_of part = text_shown (files_of part)

-- One piece more.

-- the piece is of the file that the others end in
abbrev pub is_current : List ℕ → Option (List ℕ) → List ℕ → Bool
is_current first later name = bytes_eq (unwrap_or later first) name

-- what is kept with a piece more of a file that is not the traceback; what was kept comes first here, and then the
-- piece's name and its bytes
abbrev pub with_other : Option (List ℕ) → Option (List ℕ) → List ℕ → List ℕ → List ℕ → List ℕ → KeptFiles
with_other None later others traceback name bytes = record { first = Some name; later = None; others = take text_limit (others ++ bytes); traceback = traceback }
with_other (Some first) later others traceback name bytes =
    if is_current first later name
    then record { first = Some first; later = later; others = take text_limit (others ++ bytes); traceback = traceback }
    else record { first = Some first; later = Some name; others = take text_limit (others ++ frame_end others ++ frame_head name ++ bytes); traceback = traceback }

-- what is kept with a piece more of the file of this name, where the piece has bytes
abbrev pub with_bytes : KeptFiles → List ℕ → List ℕ → KeptFiles
with_bytes files name bytes =
    if is_traceback name
    then record { first = files.first; later = files.later; others = files.others; traceback = take text_limit (files.traceback ++ bytes) }
    else with_other files.first files.later files.others files.traceback name bytes

-- what is kept with a piece more of the file of this name
unfoldable pub with_piece : KeptFiles → List ℕ → List ℕ → KeptFiles
with_piece files name bytes = if has_any_byte bytes then with_bytes files name bytes else files
