-- The lines of a `.testr.conf`, each by itself (docs/FORMATS.md, "The configuration").
use Rattle.std.specs.Prelude.{ℕ, ◌-◌, Bool, false, nat_lt, Option, None, Some, ◌&&◌, ◌||◌, not, ◌==◌, nat_eq, List, [], ◌∷◌, length, take, drop, map, if◌then◌else◌}
use Rattle.std.specs.List.{list_any, ends_with, before_first, after_first}
use Rattle.std.specs.Str.{is_utf8}
use Rattle.std.specs.Char.{to_ascii_lowercase}
use Rattle.bstr.specs.Text.{lines_of}
use Rattle.sub_number.specs.Lines.{has_bytes}
use Rattle.testr_conf.specs.White.{front_trimmed, trimmed}

-- what a line is: refused, skipped, more of the setting above it, the beginning of a section, or a setting with its key
-- and its value. One that is indented so deep is more of the setting above it by its text, or a setting by the whole line.
pub data ConfLine : Type 0 where
  bad : ConfLine
  skipped : ConfLine
  more : (depth : ℕ) → (text line : List ℕ) → ConfLine
  section : List ℕ → ConfLine
  setting : List ℕ → List ℕ → ConfLine

-- UTF-8 without NUL
abbrev pub is_plain_line : List ℕ → Bool
is_plain_line bytes = is_utf8 bytes && not (list_any (λ byte. byte == 0) bytes)

-- there is a first byte, and it passes the test
abbrev pub begins_by : (ℕ → Bool) → List ℕ → Bool
begins_by test [] = false
begins_by test (byte ∷ bytes) = test byte

-- `#` or `;`
abbrev pub is_comment_sign : ℕ → Bool
is_comment_sign byte = byte == 35 || byte == 59

-- a space or a tab
abbrev pub is_indent : ℕ → Bool
is_indent byte = byte == 32 || byte == 9

-- `[`
abbrev pub is_open_bracket : ℕ → Bool
is_open_bracket byte = byte == 91

-- `=` or `:`
abbrev pub is_sign : ℕ → Bool
is_sign byte = byte == 61 || byte == 58

-- what follows `[` ends with `]`, and the name of the section is what stands between, as it is
abbrev pub section_line : List ℕ → ConfLine
section_line behind = if ends_with nat_eq behind (93 ∷ []) then section (take (length behind - 1) behind) else bad

-- a key does not tell capital letters from small ones
abbrev pub setting_key : List ℕ → List ℕ
setting_key line = map to_ascii_lowercase (trimmed (before_first is_sign line))

-- a key that is not empty, a sign, and the value
abbrev pub setting_line : List ℕ → ConfLine
setting_line line =
    if list_any is_sign line && has_bytes (setting_key line) then setting (setting_key line) (trimmed (after_first is_sign line))
    else bad

-- what a line of text is, which is so much without the white space at its ends
abbrev pub text_line : List ℕ → List ℕ → ConfLine
text_line line text =
    if not (has_bytes text) || begins_by is_comment_sign text then skipped
    else (if begins_by is_indent line then more (length line - length (front_trimmed line)) text line
    else (if begins_by is_open_bracket line then section_line (drop 1 text)
    else setting_line line))

-- what a line without its end is
abbrev pub conf_line_of : List ℕ → ConfLine
conf_line_of line = if is_plain_line line then text_line line (trimmed line) else bad

-- the bytes without this last byte, where it is theirs
abbrev pub strip_last_byte : ℕ → List ℕ → List ℕ
strip_last_byte byte bytes = if ends_with nat_eq bytes (byte ∷ []) then take (length bytes - 1) bytes else bytes

-- the same of a line with its newline, which is removed, and then a carriage return at its end
abbrev pub ended_line_of : List ℕ → ConfLine
ended_line_of line = conf_line_of (strip_last_byte 13 (strip_last_byte 10 line))

-- Which indented lines go on with a setting.

-- the line is deeper than the setting above it in its section, where there is one
abbrev pub is_deeper : ℕ → Option ℕ → Bool
is_deeper depth None = false
is_deeper depth (Some above) = nat_lt above depth

-- The line, where the setting above it in its section stands so deep, or there is none. An indented line that is no deeper is
-- a setting.
abbrev pub placed_line : Option ℕ → ConfLine → ConfLine
placed_line above (more depth text line) = if is_deeper depth above then more depth text line else setting_line line
placed_line above (section name) = section name
placed_line above (setting key own) = setting key own
placed_line above skipped = skipped
placed_line above bad = bad

-- how deep the setting stands that is above the next line
abbrev pub depth_behind : Option ℕ → ConfLine → Option ℕ
depth_behind above (more depth text line) = if is_deeper depth above then above else Some depth
depth_behind above (section name) = None
depth_behind above (setting key own) = Some 0
depth_behind above skipped = above
depth_behind above bad = above

-- the lines, one after another
abbrev pub placed_lines : Option ℕ → List ConfLine → List ConfLine
placed_lines above [] = []
placed_lines above (line ∷ lines) = placed_line above line ∷ placed_lines (depth_behind above line) lines

-- the lines of a text below a setting that stands so deep, or in front of any
abbrev pub lines_below : Option ℕ → List ℕ → List ConfLine
lines_below above text = placed_lines above (map ended_line_of (lines_of text))

-- the lines of a text
abbrev pub conf_lines : List ℕ → List ConfLine
conf_lines text = lines_below None text
