-- Notes of failures, as the commands of a build server's log (docs/FORMATS.md, "Notes of failures").
use Rattle.std.specs.Prelude.{◌≡◌, ℕ, ◌==◌, ◌||◌, ◌&&◌, Bool, false, not, nat_eq, Option, None, Some, List, [], ◌∷◌, ◌++◌, drop, length, codes, if◌then◌else◌}
use Rattle.std.specs.Char.{is_ascii_digit}
use Rattle.std.specs.List.{fold, filter, list_any, flat_map, starts_with, before_first, position_or_len}
use Rattle.bstr.specs.Text.{lines_of}
use Rattle.outcome_fold.specs.Answers.{row_fails}
use Rattle.outcome_fold.specs.declared.row.Row.{Row}

-- Bytes that cannot stand as they are.

-- what stands for a byte, or the byte where that is nothing
abbrev pub byte_or : ℕ → Option (List ℕ) → List ℕ
byte_or byte None = byte ∷ []
byte_or byte (Some escape) = escape

-- how a byte of a text is written
abbrev pub text_byte : ℕ → List ℕ
text_byte byte =
    if byte == 37 then codes "%25"
    else (if byte == 13 then codes "%0D"
    else (if byte == 10 then codes "%0A"
    else byte ∷ []))

-- how a byte of a value is written
abbrev pub value_byte : ℕ → List ℕ
value_byte byte =
    if byte == 58 then codes "%3A"
    else (if byte == 44 then codes "%2C"
    else text_byte byte)

-- Where a test failed, by the text that it wrote.

-- a line of a file: its path, and the digits of the line's number
pub record Spot : Type 0 where
  pub path : List ℕ
  pub line : List ℕ

-- what a line begins with that tells of a spot
abbrev pub spot_front : List ℕ
spot_front = codes "  File \""

-- what stands behind the path
abbrev pub number_front : List ℕ
number_front = codes "\", line "

-- the byte is a double quote, which ends a path
abbrev pub is_quote : ℕ → Bool
is_quote byte = byte == 34

-- the byte is no decimal digit, and ends the number of a line
abbrev pub is_no_digit : ℕ → Bool
is_no_digit byte = not (is_ascii_digit byte)

-- at least one digit
abbrev pub spot_with : (path line : List ℕ) → Option Spot
spot_with path line = if length line == 0 then None else Some (record { path = path; line = line })

-- the path ends at the first `"`, and the number of the line stands behind it
abbrev pub spot_behind : (path behind : List ℕ) → Option Spot
spot_behind path behind = if starts_with nat_eq behind number_front then spot_with path (before_first is_no_digit (drop 8 behind)) else None

-- the spot that these bytes tell, which stand behind the front of a line: a path up to the first quote, and a number
abbrev pub spot_named : List ℕ → Option Spot
spot_named named = spot_behind (before_first is_quote named) (drop (position_or_len is_quote named) named)

-- the spot that a line tells of
abbrev pub spot_of : List ℕ → Option Spot
spot_of line = if starts_with nat_eq line spot_front then spot_named (drop 8 line) else None

-- a folder of Python's own begins here, which packages are installed in, too
abbrev pub begins_installed : List ℕ → Bool
begins_installed path = starts_with nat_eq path (codes "/lib/python") || starts_with nat_eq path (codes "/lib64/python")

-- a file that was installed, by its path: such a folder begins somewhere in it
abbrev pub is_installed : List ℕ → Bool
is_installed [] = false
is_installed (byte ∷ path) = begins_installed (byte ∷ path) || is_installed path

-- an installed file stands behind a file of the project
abbrev pub leaves_project : (found spot : Spot) → Bool
leaves_project found spot = is_installed spot.path && not (is_installed found.path)

-- of two spots the later one, unless it alone is in an installed file
abbrev pub later_spot : Option Spot → Option Spot → Option Spot
later_spot found None = found
later_spot None (Some spot) = Some spot
later_spot (Some found) (Some spot) = if leaves_project found spot then Some found else Some spot

-- one line more
abbrev pub spot_after : Option Spot → List ℕ → Option Spot
spot_after found line = later_spot found (spot_of line)

-- the last one that the lines of a text tell of: of those in files of the project where there is one, else of all
abbrev pub last_spot : List ℕ → Option Spot
last_spot text = fold spot_after None (lines_of text)

-- The notes.

-- the values that say where
abbrev pub spot_values : Option Spot → List ℕ
spot_values None = []
spot_values (Some spot) = codes "file=" ++ flat_map value_byte spot.path ++ codes ",line=" ++ flat_map value_byte spot.line ++ codes ","

-- the note of a row that fails: where it failed, where its text says so, its id, and its text
abbrev pub note_of : Row → List ℕ
note_of row =
    codes "::error " ++ spot_values (last_spot row.text) ++ codes "title=" ++ flat_map value_byte row.id ++ codes "::"
    ++ flat_map text_byte row.text ++ codes "\n"

-- the notes of each row that fails, in the order of the rows
abbrev pub failure_notes : List Row → List ℕ
failure_notes rows = flat_map note_of (filter row_fails rows)

-- Lines.

-- a line ends at this byte
abbrev pub breaks_line : ℕ → Bool
breaks_line byte = byte == 10 || byte == 13

-- one line: a newline at its end, and no byte before it that ends a line
pub record IsOneLine (text : List ℕ) : Type 0 where
  pub front : List ℕ
  pub whole : text ≡ front ++ codes "\n"
  pub inside : list_any breaks_line front ≡ false
